-- A reference in two parts.
use Rattle.std.proofs.Common.{◌≡◌, ℕ, suc, ◌+◌, ◌-◌, ◌*◌, ◌<◌, ◌≤◌, ◌≢◌, max, min, true, List, length, get_or, Ok, Err, Result, sym, refl, ap, ◌∙◌, subst, ap₂, inl, inr, le_trans, mul_assoc, mul-add, zero-mul as zero-mul-ℕ, arith}
use native.Mathlib.Decide.{dec_lt}
use Rattle.domain.specs.Answers.{multiplied}
use Rattle.domain.specs.Model.{Model, Sound}
use Rattle.domain.specs.Ring.{Ring}
use Rattle.domain.specs.declared.fault.Fault.{Fault}
use Rattle.domain.specs.declared.number.Number.{Number}
use Rattle.polynomial.specs.Entries.{stands, trees}
use Rattle.polynomial.specs.Needs.{Splits}
use Rattle.polynomial.specs.Polynomials.{Polynomial, Poly, letter}
use Rattle.polynomial.specs.Trees.{Tree, leaf, node, After, From, Reduced, Lawful, tree_mass, tree_degree, value}
use Rattle.polynomial.proofs.Canonicity.{le-mass, below_lawful, beside_lawful}
use Rattle.polynomial.proofs.Down.{down, down-zero, constant-zero}
use Rattle.polynomial.proofs.ElementFacts.{facts, size_zero}
use Rattle.polynomial.proofs.LetterRules.{after_le, reduced_ordered, free_value}
use Rattle.polynomial.proofs.Parts.{node_splits}
use Rattle.polynomial.proofs.Rings.{zero-add, mul-zero, zero-mul}
use Rattle.polynomial.proofs.SeriesRing.{poly_laws}
use Rattle.diagram.specs.Parts.{Has, Top, Cuts, Parted, nesting}
use Rattle.diagram.specs.Places.{Lower, Falls}
use Rattle.diagram.specs.Tables.{node_of, nodes, tree, of, mass_of, Coded, LawfulIn}
use Rattle.diagram.specs.declared.entry.Entry.{Entry}
use Rattle.diagram.specs.declared.entry.Reference.{Reference}
use Rattle.diagram.proofs.LawfulLaws.{zero_lawful}
use Rattle.diagram.proofs.Lettering.{nothing}
use Rattle.diagram.proofs.Listing.{get_or-any}
use Rattle.diagram.proofs.Numbering.{tree-at}
use Rattle.diagram.proofs.Walking.{multiplied_ok, multiplied_err}

-- the letter of an entry that is there
pub has_letter : (es : List Entry) (n : ℕ) (e : Entry) → n ≢ 0 → n ≤ length es → e ≡ get_or es (n - 1) e → Has es n e.letter
has_letter es n e some inside at =
    (omega (arith, some), λ d. ap (λ (b : Entry). b.letter) (get_or-any es (n - 1) d e (omega (arith, some, inside)) ∙ sym at))

-- an entry has one letter
pub has_one : (es : List Entry) (n : ℕ) (e : Entry) (y : ℕ) → Has es n y → e ≡ get_or es (n - 1) e → e.letter ≡ y
has_one es n e y h at = ap (λ (b : Entry). b.letter) at ∙ h.1 e

-- both edges nest less deep than their entry
low_nests : {E : Type 0} (k x d : ℕ) (m : Tree E) → x < k → After x m → tree_degree m ≤ d → nesting k m < d + (k - x)
low_nests k x d leaf known after le = omega (arith, known)
low_nests k x d (node y p m q n) known after le = omega (arith, known, after, le)

high_nests : {E : Type 0} (k x d : ℕ) (n : Tree E) → x < k → From x n → 1 + tree_degree n ≤ d → nesting k n < d + (k - x)
high_nests k x d leaf known from le = omega (arith, known)
high_nests k x d (node y p m q n) known from le = omega (arith, known, from, le)

module _ {E : Type 0} (M : Model E) (S : Sound M) (k : ℕ) where
  pub nothing-lawful : (es : List Entry) → LawfulIn M es nothing
  nothing-lawful es = zero_lawful M S es nothing refl refl

  pub nothing-of : (es : List Entry) → of M k es nothing ≡ (Poly M.ring k).zero
  nothing-of es =
      ap (λ z. value M.ring k z leaf) S.codes.zero.1 ∙ (ap (λ z. (Poly M.ring k).mul z (Poly M.ring k).one) (constant-zero M.ring k) ∙ zero-mul (poly_laws S.laws k) (Poly M.ring k).one)

  pub nothing-mass : (es : List Entry) → mass_of M es nothing ≡ 0
  nothing-mass es = ap (λ n. n * tree_mass M leaf) (ap M.size S.codes.zero.1 ∙ size_zero S) ∙ zero-mul-ℕ (tree_mass M leaf)

  module _ (es : List Entry) (f : Reference) (x : ℕ) (C : Cuts M k es f x) where
    abbrev R : Ring E
    R = M.ring

    abbrev P : Ring (Polynomial E k)
    P = Poly M.ring k

    parted_whole : After x (tree M es f.entry) → (Has es f.entry x → ⊥) → Parted M k es f x f nothing
    parted_whole after none =
        let L = poly_laws S.laws k in
        record {
          left = C.lawful;
          right = nothing-lawful es;
          splits = record {
            known = C.known;
            means = sym (ap (λ z. P.add (P.mul (letter R k x) z) (of M k es f)) (nothing-of es) ∙ (ap (λ z. P.add z (of M k es f)) (mul-zero L (letter R k x)) ∙ zero-add L (of M k es f)));
            low = λ y l. free_value S.laws k y (M.value f.weight) (tree M es f.entry) (reduced_ordered M k (tree M es f.entry) (C.kept.reduced f.entry C.lawful.inside)) (after_le x y l (tree M es f.entry) after);
            high = λ y l. ap (down R k y) (nothing-of es) ∙ down-zero S.laws k y;
          };
          weighs = omega (arith, nothing-mass es);
          below = omega arith;
          degree = let z : tree_degree (tree M es 0) ≡ 0 = refl in omega arith;
          nests = λ h. absurd (none h);
        }

    -- at 1
    pub parted_one : f.entry ≡ 0 → Parted M k es f x f nothing
    parted_one z = parted_whole (subst (λ n. After x (tree M es n)) (sym z) tt) (λ h. omega (arith, z, h.0))

    module _ (e : Entry) (fall : Falls es) (some : f.entry ≢ 0) (at : e ≡ get_or es (f.entry - 1) e) where
      inside : f.entry - 1 < length es
      inside = omega (arith, C.lawful.inside, some)

      abbrev w : E
      w = M.value f.weight

      abbrev p : E
      p = M.value e.additive.weight

      abbrev m : Tree E
      m = tree M es e.additive.target

      abbrev q : E
      q = M.value e.multiplicative.weight

      abbrev n : Tree E
      n = tree M es e.multiplicative.target

      is_t : tree M es f.entry ≡ node e.letter p m q n
      is_t =
          let up : f.entry ≡ suc (f.entry - 1) = omega (arith, some) in
          ap (tree M es) up ∙ (tree-at M es (f.entry - 1) e fall inside ∙ ap (λ (d : Entry). stands (trees (nodes M es)) (node_of M d)) (sym at))

      -- another letter, which is later
      pub parted_other : e.letter ≢ x → Parted M k es f x f nothing
      parted_other ne =
          let g : x ≤ e.letter = C.leads e.letter (has_letter es f.entry e some C.lawful.inside at) in
          let a : x < e.letter = apart g in
          parted_whole (subst (After x) (sym is_t) a) (λ h. ne (has_one es f.entry e x h at))
        where
          apart : x ≤ e.letter → x < e.letter
          apart g = omega (arith, ne)

      r : Reduced M k (node e.letter p m q n)
      r = subst (Reduced M k) is_t (C.kept.reduced f.entry C.lawful.inside)

      l : Lawful M w (node e.letter p m q n)
      l = subst (Lawful M w) is_t C.lawful.lawful

      low : Lawful M (R.mul w p) m
      low = below_lawful M (facts S) k e.letter p m q n r w l

      high : Lawful M (R.mul w q) n
      high = beside_lawful M (facts S) k e.letter p m q n r w l

      low_small : M.size (R.mul w p) ≤ M.limit
      low_small = le_trans (le-mass M (facts S) k (R.mul w p) m r.below) low.light

      high_small : M.size (R.mul w q) ≤ M.limit
      high_small = le_trans (le-mass M (facts S) k (R.mul w q) n r.beside) high.light

      codes : Coded M 0 e
      codes = subst (Coded M 0) (sym at) (C.kept.coded (f.entry - 1) e inside)

      -- neither product is refused
      pub low_never : (b : Fault) → ◌≡◌ {A = Result Number Fault} (Err b) (multiplied M f.weight e.additive.weight) → ⊥
      low_never b = multiplied_err M S f.weight e.additive.weight C.lawful.coded codes.0 low_small b

      pub high_never : (b : Fault) → ◌≡◌ {A = Result Number Fault} (Err b) (multiplied M f.weight e.multiplicative.weight) → ⊥
      high_never b = multiplied_err M S f.weight e.multiplicative.weight C.lawful.coded codes.1 high_small b

      same_mass : M.size w * tree_mass M (node e.letter p m q n) ≡ M.size (R.mul w p) * tree_mass M m + M.size (R.mul w q) * tree_mass M n
      same_mass =
          cc (
            mul-add (M.size w) (M.size p * tree_mass M m) (M.size q * tree_mass M n),
            mul_assoc (M.size w) (M.size p) (tree_mass M m),
            mul_assoc (M.size w) (M.size q) (tree_mass M n),
            S.sizes.product w p,
            S.sizes.product w q,
          )

      lower : Lower (f.entry - 1) e
      lower = subst (Lower (f.entry - 1)) (sym at) (fall (f.entry - 1) e inside)

      -- a reference whose weight is the code of a small element v
      part : (a : Number) (v : E) (i : ℕ) → a ≡ M.code v → M.size v ≤ M.limit → i ≤ length es → Lawful M v (tree M es i) → (M.value a ≡ v) × LawfulIn M es (record { weight = a; entry = i })
      part a v i is small there lawful =
          let H = S.codes.has v small in
          let va : M.value a ≡ v = ap M.value is ∙ H.1 in
          (va, record { coded = subst (λ z. M.coded z ≡ true) (sym is) H.0; inside = there; lawful = subst (λ z. Lawful M z (tree M es i)) (sym va) lawful })

      -- the two edges
      parted_edges : (a b : Number) → e.letter ≡ x → ◌≡◌ {A = Result Number Fault} (Ok a) (multiplied M f.weight e.additive.weight) → ◌≡◌ {A = Result Number Fault} (Ok b) (multiplied M f.weight e.multiplicative.weight)
          → Parted M k es f x (record { weight = a; entry = e.additive.target }) (record { weight = b; entry = e.multiplicative.target })
      parted_edges a b ex oa ob =
          let A = part a (R.mul w p) e.additive.target (multiplied_ok M S f.weight e.additive.weight C.lawful.coded codes.0 low_small a oa) low_small (omega (arith, lower.0, inside)) low in
          let B = part b (R.mul w q) e.multiplicative.target (multiplied_ok M S f.weight e.multiplicative.weight C.lawful.coded codes.1 high_small b ob) high_small (omega (arith, lower.1, inside)) high in
          record {
            left = A.1;
            right = B.1;
            splits = subst (λ z. Splits R k z (of M k es f) (value R k (M.value a) m) (value R k (M.value b) n)) ex
                (subst (λ z. Splits R k e.letter (of M k es f) (value R k z m) (value R k (M.value b) n)) (sym A.0)
                (subst (λ z. Splits R k e.letter (of M k es f) (value R k (R.mul w p) m) (value R k z n)) (sym B.0)
                (subst (λ z. Splits R k e.letter (value R k w z) (value R k (R.mul w p) m) (value R k (R.mul w q) n)) (sym is_t) (node_splits M (facts S) k e.letter p m q n r w))));
            below = let d : tree_degree (tree M es f.entry) ≡ max (tree_degree m) (1 + tree_degree n) = ap tree_degree is_t in omega arith;
            degree = let d : tree_degree (tree M es f.entry) ≡ max (tree_degree m) (1 + tree_degree n) = ap tree_degree is_t in omega arith;
            nests = λ h.
                let d : nesting k (tree M es f.entry) ≡ max (tree_degree m) (1 + tree_degree n) + (k - e.letter) = ap (nesting k) is_t in
                let l = low_nests k e.letter (max (tree_degree m) (1 + tree_degree n)) m r.known r.after (omega arith) in
                let u = high_nests k e.letter (max (tree_degree m) (1 + tree_degree n)) n r.known r.from (omega arith) in
                (subst (λ z. nesting k m < z) (sym d) l, subst (λ z. nesting k n < z) (sym d) u);
            weighs = ap (λ z. M.size w * tree_mass M z) is_t ∙ (same_mass ∙ ap₂ (λ y z. M.size y * tree_mass M m + M.size z * tree_mass M n) (sym A.0) (sym B.0));
          }

      pub parted_at : (a b : Reference) → e.letter ≡ x → a.entry ≡ e.additive.target → b.entry ≡ e.multiplicative.target → ◌≡◌ {A = Result Number Fault} (Ok a.weight) (multiplied M f.weight e.additive.weight) → ◌≡◌ {A = Result Number Fault} (Ok b.weight) (multiplied M f.weight e.multiplicative.weight) → Parted M k es f x a b
      parted_at a b ex ea eb oa ob =
          subst (λ i. Parted M k es f x (record { weight = a.weight; entry = i }) b) (sym ea)
          (subst (λ i. Parted M k es f x (record { weight = a.weight; entry = e.additive.target }) (record { weight = b.weight; entry = i })) (sym eb) (parted_edges a.weight b.weight ex oa ob))

-- the higher of the letters of two entries that are there
pub top_min : (es : List Entry) (m n : ℕ) (a b : Entry) (x : ℕ) → m ≢ 0 → n ≢ 0 → m ≤ length es → n ≤ length es → a ≡ get_or es (m - 1) a → b ≡ get_or es (n - 1) b → x ≡ min a.letter b.letter → Top es m n x
top_min es m n a b x sm sn lm ln am bn e = record {
  one = elim (dec_lt b.letter a.letter) [
    | yes l ↦ let q : b.letter ≡ x = omega (arith, e) in inr (subst (Has es n) q (has_letter es n b sn ln bn))
    | no l ↦ let q : a.letter ≡ x = omega (arith, e) in inl (subst (Has es m) q (has_letter es m a sm lm am))
  ];
  first = λ y h. let q = has_one es m a y h am in omega (arith, e);
  second = λ y h. let q = has_one es n b y h bn in omega (arith, e);
}
