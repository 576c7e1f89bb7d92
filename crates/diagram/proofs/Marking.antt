-- Marks for the entries that are reached.
use Rattle.std.proofs.Common.{◌≡◌, ℕ, zero, suc, ◌+◌, ◌<◌, ◌≤◌, Bool, true, false, cond, ◌⊎◌, List, ◌∷◌, length, get_or, take, drop, set, replicate, count_by, sym, refl, ap, ◌∙◌, subst, inl, inr, add-one, arith, length-set, length-drop, get_or-drop, get_or-set_other, get_or-set_same}
use Rattle.std.proofs.Math.Numerals.{one-add}
use Rattle.std.proofs.lemmas.List.Sums.{count_by_more_yes, count_by_more_no}
use mathlib.Core.Bool.{false≢true}
use native.Mathlib.Decide.{dec_lt}
use lib.ListN.{length-replicate}
use Rattle.polynomial.specs.Lists.{Among, Distinct}
use Rattle.diagram.specs.Counting.{Reached, here, low, high, Counted, marked, Mark, Marking}
use Rattle.diagram.specs.Places.{Lower, Falls}
use Rattle.diagram.specs.declared.entry.Entry.{Entry}
use Rattle.diagram.proofs.Listing.{get_or-any}

module _ (ms : List Bool) where
  abbrev next : ℕ → Bool → List ℕ
  next i b = cond b (suc i ∷ marked ms i) (marked ms i)

  -- no more are marked than there are numbers
  pub length_marked : (n : ℕ) → length (marked ms n) ≤ n
  length_marked zero = omega arith
  length_marked (suc i) = go (length_marked i) (get_or ms (suc i) false)
    where
      go : length (marked ms i) ≤ i → (b : Bool) → length (next i b) ≤ suc i
      go h true = omega arith
      go h false = omega arith

  -- how many there are, as the chain over the marks counts them
  pub count_marked : (n : ℕ) → n < length ms → count_by (λ (b : Bool). b) (take n (drop 1 ms)) ≡ length (marked ms n)
  count_marked zero h = refl
  count_marked (suc i) h = go (count_marked i (omega (arith, h))) (get_or ms (suc i) false) refl
    where
      inside : i < length (drop 1 ms)
      inside = omega (arith, h, length-drop 1 ms)

      at : get_or (drop 1 ms) i false ≡ get_or ms (suc i) false
      at = get_or-drop 1 ms i false ∙ ap (λ k. get_or ms k false) (one-add i)

      up : take (suc i) (drop 1 ms) ≡ take (i + 1) (drop 1 ms)
      up = ap (λ k. take k (drop 1 ms)) (sym (add-one i))

      go : count_by (λ (b : Bool). b) (take i (drop 1 ms)) ≡ length (marked ms i) → (b : Bool) → get_or ms (suc i) false ≡ b → count_by (λ (b : Bool). b) (take (suc i) (drop 1 ms)) ≡ length (marked ms (suc i))
      go ih true e =
          ap (count_by (λ (b : Bool). b)) up ∙ (count_by_more_yes (λ (b : Bool). b) (drop 1 ms) i false inside (at ∙ e)
          ∙ (ap (λ k. k + 1) ih ∙ (add-one (length (marked ms i)) ∙ sym (ap (λ b. length (next i b)) e))))
      go ih false e =
          ap (count_by (λ (b : Bool). b)) up ∙ (count_by_more_no (λ (b : Bool). b) (drop 1 ms) i false inside (at ∙ e)
          ∙ (ih ∙ sym (ap (λ b. length (next i b)) e)))

  among_marked : (n j : ℕ) → Among j (marked ms n) → (1 ≤ j) × (j ≤ n) × Mark ms j
  among_marked zero j a = absurd a
  among_marked (suc i) j a = go (among_marked i j) (get_or ms (suc i) false) refl a
    where
      go : (Among j (marked ms i) → (1 ≤ j) × (j ≤ i) × Mark ms j) → (b : Bool) → get_or ms (suc i) false ≡ b → Among j (next i b) → (1 ≤ j) × (j ≤ suc i) × Mark ms j
      go ih true e (inl q) = (omega arith, omega arith, ap (λ n. get_or ms n false) q ∙ e)
      go ih true e (inr a) = let h = ih a in (h.0, omega (arith, h.1), h.2)
      go ih false e a = let h = ih a in (h.0, omega (arith, h.1), h.2)

  marked_among : (n j : ℕ) → 1 ≤ j → j ≤ n → Mark ms j → Among j (marked ms n)
  marked_among zero j a b m = absurd (omega arith)
  marked_among (suc i) j a b m = go (λ h. marked_among i j a h m) (get_or ms (suc i) false) refl
    where
      go : (j ≤ i → Among j (marked ms i)) → (t : Bool) → get_or ms (suc i) false ≡ t → Among j (next i t)
      go ih true e = elim (dec_lt i j) [ yes l ↦ inl (omega arith) | no l ↦ inr (ih (omega arith)) ]
      go ih false e =
          elim (dec_lt i j) [
            | yes l ↦ let q : j ≡ suc i = omega arith in absurd (false≢true (sym e ∙ (ap (λ n. get_or ms n false) (sym q) ∙ m)))
            | no l ↦ ih (omega arith)
          ]

  distinct_marked : (n : ℕ) → Distinct (marked ms n)
  distinct_marked zero = tt
  distinct_marked (suc i) = go (distinct_marked i) (get_or ms (suc i) false)
    where
      go : Distinct (marked ms i) → (b : Bool) → Distinct (next i b)
      go ih true = (λ a. let h = among_marked i (suc i) a in omega (arith, h.1), ih)
      go ih false = ih

  module _ (es : List Entry) (n : ℕ) (inside : n ≤ length es) (fall : Falls es) (K : Marking es n 0 ms) where
    reached_mark : (j : ℕ) → Reached es n j → Mark ms j × (j ≤ n)
    reached_mark j here = (K.root, omega arith)
    reached_mark j (low i e h at r) =
        let p = reached_mark (suc i) r in
        let f = fall i e h in
        (subst (λ d. Mark ms d.additive.target) at (K.closed i (omega arith) (omega (arith, p.1)) p.0 e).0, omega (arith, p.1, f.0, ap (λ (d : Entry). d.additive.target) at))
    reached_mark j (high i e h at r) =
        let p = reached_mark (suc i) r in
        let f = fall i e h in
        (subst (λ d. Mark ms d.multiplicative.target) at (K.closed i (omega arith) (omega (arith, p.1)) p.0 e).1, omega (arith, p.1, f.1, ap (λ (d : Entry). d.multiplicative.target) at))

    pub counted : (c : ℕ) → c ≡ length (marked ms n) → Counted es n c
    counted c e = record {
      numbers = marked ms n;
      distinct = distinct_marked n;
      all = λ j. (λ a. let h = among_marked n j a in (h.0, K.sound j h.2), λ r. let h = reached_mark j r.1 in marked_among n j r.0 h.1 h.0);
      count = e;
    }

mark_here : (ms : List Bool) (a : ℕ) → a < length ms → Mark (set ms a true) a
mark_here ms a h = get_or-set_same ms a true false h

mark_of : (ms : List Bool) (a y : ℕ) → Mark (set ms a true) y → (y ≡ a) ⊎ Mark ms y
mark_of ms a y m =
    elim (dec_lt a y) [
      | yes l ↦ inr (sym (get_or-set_other ms a y true false (λ e. omega arith)) ∙ m)
      | no l ↦ elim (dec_lt y a) [ yes k ↦ inr (sym (get_or-set_other ms a y true false (λ e. omega arith)) ∙ m) | no k ↦ inl (omega arith) ]
    ]

mark_keep : (ms : List Bool) (a y : ℕ) → a < length ms → Mark ms y → Mark (set ms a true) y
mark_keep ms a y h m =
    elim (dec_lt a y) [
      | yes l ↦ get_or-set_other ms a y true false (λ e. omega arith) ∙ m
      | no l ↦ elim (dec_lt y a) [ yes k ↦ get_or-set_other ms a y true false (λ e. omega arith) ∙ m | no k ↦ let q : y ≡ a = omega arith in subst (Mark (set ms a true)) (sym q) (mark_here ms a h) ]
    ]

unmarked : (m j : ℕ) → get_or (replicate m false) j false ≡ false
unmarked zero j = refl
unmarked (suc m) zero = refl
unmarked (suc m) (suc j) = unmarked m j

pub marking_start : (es : List Entry) (n : ℕ) → n < 1025 → Marking es n n (set (replicate 1025 false) n true)
marking_start es n h =
    let l = length-replicate 1025 false in
    record {
      long = length-set (replicate 1025 false) n true ∙ l;
      root = mark_here (replicate 1025 false) n (omega arith);
      sound = λ j m. elim (mark_of (replicate 1025 false) n j m) [ inl q ↦ subst (Reached es n) (sym q) here | inr q ↦ absurd (false≢true (sym (unmarked 1025 j) ∙ q)) ];
      closed = λ j a b m. absurd (omega arith);
    }

module _ (es : List Entry) (n j : ℕ) (ms : List Bool) (e : Entry) (fall : Falls es) (short : length es ≤ 1024) (inside : j < length es) (at : e ≡ get_or es j e) where
  abbrev a : ℕ
  a = e.additive.target

  abbrev b : ℕ
  b = e.multiplicative.target

  abbrev both : List Bool
  both = set (set ms a true) b true

  pub marking_on : Mark ms (suc j) → Marking es n (suc j) ms → Marking es n j both
  marking_on m K =
      let f = subst (Lower j) (sym at) (fall j e inside) in
      let ha : a < length ms = omega (arith, K.long, f.0) in
      let hb : b < length (set ms a true) = omega (arith, K.long, f.1, length-set ms a true) in
      let keep : (y : ℕ) → Mark ms y → Mark both y = λ y p. mark_keep (set ms a true) b y hb (mark_keep ms a y ha p) in
      let ma : Mark both a = mark_keep (set ms a true) b a hb (mark_here ms a ha) in
      let mb : Mark both b = mark_here (set ms a true) b hb in
      let old : (y : ℕ) → j < y → Mark both y → Mark ms y = λ y l p.
      elim (mark_of (set ms a true) b y p) [ inl q ↦ absurd (omega (arith, f.1)) | inr p' ↦ elim (mark_of ms a y p') [ inl q ↦ absurd (omega (arith, f.0)) | inr p'' ↦ p'' ] ] in
      record {
        long = length-set (set ms a true) b true ∙ (length-set ms a true ∙ K.long);
        root = keep n K.root;
        sound = λ y p.
            elim (mark_of (set ms a true) b y p) [
              | inl q ↦ subst (Reached es n) (sym q) (high j e inside (sym at) (K.sound (suc j) m))
              | inr p' ↦ elim (mark_of ms a y p') [ inl q ↦ subst (Reached es n) (sym q) (low j e inside (sym at) (K.sound (suc j) m)) | inr p'' ↦ K.sound y p'' ]
            ];
        closed = λ y l h p.
            elim (dec_lt j y) [
              | yes k ↦ λ d. let c = K.closed y (omega arith) h (old (suc y) (omega arith) p) d in (keep _ c.0, keep _ c.1)
              | no k ↦ λ d. let q : y ≡ j = omega arith in
                  let is : get_or es y d ≡ e = ap (λ i. get_or es i d) q ∙ (get_or-any es j d e inside ∙ sym at) in
                  (subst (λ z. Mark both z.additive.target) (sym is) ma, subst (λ z. Mark both z.multiplicative.target) (sym is) mb)
            ];
      }
