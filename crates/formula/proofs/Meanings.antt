-- The value of a formula's flow is the formula's meaning, in every arithmetic.
use Rattle.std.proofs.Common.{◌≡◌, ℕ, zero, suc, ◌+◌, ◌-◌, ◌<◌, List, [], ◌∷◌, ◌++◌, length, get_or, sym, refl, ap, ◌∙◌, add-zero, add-suc, suc-add, arith}
use Rattle.std.proofs.lemmas.List.{length_push, get_or_append_left, get_or_push}
use Rattle.domain.specs.Ring.{Ring}
use Rattle.formula.specs.declared.record.Record.{Record}
use Rattle.formula.specs.declared.record.Record.TheVariants.{Product}
use Rattle.formula.specs.Formulas.{Formula}
use Rattle.formula.specs.Formulas.Formula.{constant, letter, sum, difference, product, negation, power}
use Rattle.formula.specs.Grammar.{Part, Reads}
use Rattle.formula.specs.Grammar.Reads.{a_letter, a_number, in_parentheses, an_atom, a_power, a_negation, a_factor, a_product, a_term, a_sum, a_difference, space_before, space_after}
use Rattle.formula.specs.Meaning.{raised, meaning, record_value, values}
use Rattle.formula.specs.Records.{products, written}
use Rattle.formula.specs.Theorems.{FlowMeans}
use Rattle.formula.proofs.WellFormed.{longer, some_written}

-- no exponent of the formula is 0
abbrev Positive : Formula → Type 0
Positive (constant n) = Unit {0}
Positive (letter i) = Unit {0}
Positive (sum f g) = Positive f × Positive g
Positive (difference f g) = Positive f × Positive g
Positive (product f g) = Positive f × Positive g
Positive (negation f) = Positive f
Positive (power f k) = Positive f × (0 < k)

positive : {p : Part} {d : ℕ} {f : Formula} {s t : List ℕ} → Reads p d f s t → Positive f
positive (a_letter i h) = tt
positive (a_number n h) = tt
positive (in_parentheses h r) = positive r
positive (an_atom r) = positive r
positive (a_power r b x pos most) = (positive r, pos)
positive (a_negation r) = positive r
positive (a_factor r) = positive r
positive (a_product q r) = (positive q, positive r)
positive (a_term r) = positive r
positive (a_sum q r) = (positive q, positive r)
positive (a_difference q r) = (positive q, positive r)
positive (space_before r) = positive r
positive (space_after r) = positive r

module _ {E : Type 0} (R : Ring E) (number variable : ℕ → E) where
  abbrev V : List Record → List E
  V e = values R number variable [] e

  abbrev at : List Record → ℕ → E
  at e i = get_or (V e) i R.zero

  abbrev of : List Record → Record → E
  of e x = record_value R number variable (V e) x

  values-push : (vs : List E) (e : List Record) (x : Record) → values R number variable vs (e ++ x ∷ []) ≡ values R number variable vs e ++ record_value R number variable (values R number variable vs e) x ∷ []
  values-push vs [] x = refl
  values-push vs (y ∷ e) x = values-push (vs ++ record_value R number variable vs y ∷ []) e x

  values_length : (vs : List E) (e : List Record) → length (values R number variable vs e) ≡ length vs + length e
  values_length vs [] = sym (add-zero (length vs))
  values_length vs (y ∷ e) = values_length (vs ++ record_value R number variable vs y ∷ []) e ∙ (omega (arith, length_push vs (record_value R number variable vs y)))

  many : (e : List Record) → length (V e) ≡ length e
  many e = values_length [] e ∙ (omega arith)

  -- one more record leaves the values before it, and has its own
  push_keeps : (e : List Record) (x : Record) (i : ℕ) → i < length e → at (e ++ x ∷ []) i ≡ at e i
  push_keeps e x i h = ap (λ l. get_or l i R.zero) (values-push [] e x) ∙ get_or_append_left (V e) (of e x ∷ []) R.zero i (omega (arith, many e))

  push_last : (e : List Record) (x : Record) → at (e ++ x ∷ []) (length (e ++ x ∷ []) - 1) ≡ of e x
  push_last e x =
      let n : length (e ++ x ∷ []) - 1 ≡ length e = omega (arith, length_push e x) in
      ap (at (e ++ x ∷ [])) n ∙ ap (λ l. get_or l (length e) R.zero) (values-push [] e x) ∙ get_or_push (V e) (of e x) R.zero (length e) (many e)

  products_keep : (b : ℕ) (e : List Record) (k i : ℕ) → i < length e → at (products b e k) i ≡ at e i
  products_keep b e zero i h = refl
  products_keep b e (suc k) i h = products_keep b (e ++ Product (length e - 1) b ∷ []) k i (omega (arith, length_push e (Product (length e - 1) b))) ∙ push_keeps e (Product (length e - 1) b) i h

  keeps : (f : Formula) (e : List Record) (i : ℕ) → i < length e → at (written e f) i ≡ at e i
  keeps (constant n) e i h = push_keeps e _ i h
  keeps (letter n) e i h = push_keeps e _ i h
  keeps (sum f g) e i h = push_keeps (written (written e f) g) _ i (omega (arith, longer f e, longer g (written e f))) ∙ keeps g (written e f) i (omega (arith, longer f e)) ∙ keeps f e i h
  keeps (difference f g) e i h = push_keeps (written (written e f) g) _ i (omega (arith, longer f e, longer g (written e f))) ∙ keeps g (written e f) i (omega (arith, longer f e)) ∙ keeps f e i h
  keeps (product f g) e i h = push_keeps (written (written e f) g) _ i (omega (arith, longer f e, longer g (written e f))) ∙ keeps g (written e f) i (omega (arith, longer f e)) ∙ keeps f e i h
  keeps (negation f) e i h = push_keeps (written e f) _ i (omega (arith, longer f e)) ∙ keeps f e i h
  keeps (power f k) e i h = products_keep (length (written e f) - 1) (written e f) (k - 1) i (omega (arith, longer f e)) ∙ keeps f e i h

  -- k more products, where record b is x and the last record is x to the power j + 1
  products_mean : (x : E) (b : ℕ) (e : List Record) (k j : ℕ) → b < length e → at e b ≡ x → at e (length e - 1) ≡ raised R x (suc j) → at (products b e k) (length (products b e k) - 1) ≡ raised R x (suc (j + k))
  products_mean x b e zero j h base last = last ∙ ap (λ n. raised R x (suc n)) (sym (add-zero j))
  products_mean x b e (suc k) j h base last =
      let y : Record = Product (length e - 1) b in
      let next : at (e ++ y ∷ []) (length (e ++ y ∷ []) - 1) ≡ raised R x (suc (suc j)) = push_last e y ∙ (λ i. R.mul (last i) (base i)) in
      products_mean x b (e ++ y ∷ []) k (suc j) (omega (arith, length_push e y)) (push_keeps e y b h ∙ base) next ∙ ap (λ n. raised R x (suc n)) (suc-add j k ∙ sym (add-suc j k))

  -- the left operand's value is still there behind the right one's records
  left_means : (f g : Formula) (e : List Record) → at (written e f) (length (written e f) - 1) ≡ meaning R number variable f → at (written (written e f) g) (length (written e f) - 1) ≡ meaning R number variable f
  left_means f g e h = keeps g (written e f) (length (written e f) - 1) (omega (arith, some_written f e)) ∙ h

  means : (f : Formula) (e : List Record) → Positive f → at (written e f) (length (written e f) - 1) ≡ meaning R number variable f
  means (constant n) e p = push_last e _
  means (letter n) e p = push_last e _
  means (sum f g) e p = push_last (written (written e f) g) _ ∙ (λ i. R.add (left_means f g e (means f e p.0) i) (means g (written e f) p.1 i))
  means (difference f g) e p = push_last (written (written e f) g) _ ∙ (λ i. R.add (left_means f g e (means f e p.0) i) (R.neg (means g (written e f) p.1 i)))
  means (product f g) e p = push_last (written (written e f) g) _ ∙ (λ i. R.mul (left_means f g e (means f e p.0) i) (means g (written e f) p.1 i))
  means (negation f) e p = push_last (written e f) _ ∙ ap R.neg (means f e p)
  means (power f zero) e p = absurd (omega (arith, p.1))
  means (power f (suc k)) e p =
      let w : List Record = written e f in
      let last = means f e p.0 in
      let less : suc k - 1 ≡ k = omega arith in
      ap (λ n. at (products (length w - 1) w n) (length (products (length w - 1) w n) - 1)) less
      ∙ products_mean (meaning R number variable f) (length w - 1) w k 0 (omega (arith, some_written f e)) last last
      ∙ ap (λ n. raised R (meaning R number variable f) (suc n)) (omega arith)

pub flow_means : {E : Type 0} (R : Ring E) → FlowMeans R
flow_means R number variable f text r = means R number variable f [] (positive r)
