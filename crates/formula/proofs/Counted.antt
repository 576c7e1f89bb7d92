-- Signs past what a tape has room for leave it as it is.
use Rattle.std.proofs.Common.{◌≡◌, ℕ, zero, suc, ◌+◌, ◌-◌, ◌<◌, ◌≤◌, min, List, [], ◌∷◌, ◌++◌, length, take, Some, None, Option, sym, ap, ◌∙◌, subst, inl, inr, add-zero, add-suc, arith, length-take, take_all}
use Rattle.std.proofs.lemmas.Bool.{cases_lt}
use Rattle.std.proofs.lemmas.List.{take-append-le, length_push}
use Rattle.formula.specs.Limits.{max_records}
use Rattle.formula.specs.declared.record.Record.{Record}
use Rattle.formula.specs.declared.record.Record.TheVariants.{Sum, Difference, Product, Negation}
use Rattle.formula.specs.declared.state.Sign.{Sign}
use Rattle.formula.specs.declared.state.Sign.TheVariants.{Plus, Minus}
use Rattle.formula.specs.declared.tape.Tape.{Tape}
use Rattle.formula.specs.Follow.{counted}
use Rattle.formula.specs.Tapes.{Wrote, last_number, negated, multiplied, added}

-- a tape with one of the two has the other, too
pub record Alike (a b : List Record) : Type 0 where
  pub front : take (max_records + 1) a ≡ take (max_records + 1) b

pub wrote_alike : (t : Tape) (a b : List Record) → Wrote t a → Alike a b → Wrote t b
wrote_alike t a b w h = record { records_are = w.records_are ∙ h.front }

pub alike_same : (a b : List Record) → a ≡ b → Alike a b
alike_same a b e = record { front = ap (take (max_records + 1)) e }

size_alike : (a b : List Record) → Alike a b → min (max_records + 1) (length a) ≡ min (max_records + 1) (length b)
size_alike a b h = sym (length-take (max_records + 1) a) ∙ ap length h.front ∙ length-take (max_records + 1) b

push-alike : (a b : List Record) (x : Record) → Alike a b → Alike (a ++ x ∷ []) (b ++ x ∷ [])
push-alike a b x h =
    let size = size_alike a b h in
    elim (cases_lt (length a) (max_records + 1)) [
      | inl lt ↦
          let same : a ≡ b = sym (take_all (max_records + 1) a (omega arith)) ∙ h.front ∙ take_all (max_records + 1) b (omega arith) in
          alike_same (a ++ x ∷ []) (b ++ x ∷ []) (ap (λ l. l ++ x ∷ []) same)
      | inr ge ↦ record { front = take-append-le (max_records + 1) a (x ∷ []) (omega arith) ∙ h.front ∙ sym (take-append-le (max_records + 1) b (x ∷ []) (omega arith)) }
    ]

-- the same for a record that names the last one
last-alike : (make : ℕ → Record) (a b : List Record) → Alike a b → Alike (a ++ make (last_number a) ∷ []) (b ++ make (last_number b) ∷ [])
last-alike make a b h =
    let size = size_alike a b h in
    let same : last_number a ≡ last_number b = omega arith in
    subst (λ n. Alike (a ++ make (last_number a) ∷ []) (b ++ make n ∷ [])) same (push-alike a b (make (last_number a)) h)

pub multiplied_alike : (a b : List Record) (p : Option ℕ) → Alike a b → Alike (multiplied a p) (multiplied b p)
multiplied_alike a b None h = h
multiplied_alike a b (Some left) h = last-alike (Product left) a b h

pub added_alike : (a b : List Record) (s : Option (Sign × ℕ)) → Alike a b → Alike (added a s) (added b s)
added_alike a b None h = h
added_alike a b (Some (Plus, left)) h = last-alike (Sum left) a b h
added_alike a b (Some (Minus, left)) h = last-alike (Difference left) a b h

-- more than fill the tape
many_alike : (e : List Record) (k j : ℕ) → max_records < length (negated e k) → Alike (negated e k) (negated e (k + j))
many_alike e k zero h = alike_same _ _ (ap (negated e) (sym (add-zero k)))
many_alike e k (suc j) h =
    let more = many_alike e k j h in
    let size = size_alike (negated e k) (negated e (k + j)) more in
    let long : max_records + 1 ≤ length (negated e (k + j)) = omega arith in
    record { front = more.front ∙ sym (take-append-le (max_records + 1) (negated e (k + j)) (Negation (last_number (negated e (k + j))) ∷ []) long) ∙ ap (λ n. take (max_records + 1) (negated e n)) (sym (add-suc k j)) }

negated_length : (e : List Record) (m : ℕ) → length (negated e m) ≡ length e + m
negated_length e zero = sym (add-zero (length e))
negated_length e (suc m) = omega (arith, negated_length e m, length_push (negated e m) (Negation (last_number (negated e m))))

pub counted_alike : (e : List Record) (m : ℕ) → Alike (negated e (counted m)) (negated e m)
counted_alike e m =
    elim (cases_lt max_records (counted m)) [
      | inl lt ↦ let all : counted m + (m - counted m) ≡ m = omega arith in subst (λ k. Alike (negated e (counted m)) (negated e k)) all (many_alike e (counted m) (m - counted m) (omega (arith, negated_length e (counted m))))
      | inr ge ↦ let all : counted m ≡ m = omega arith in alike_same _ _ (ap (negated e) all)
    ]
