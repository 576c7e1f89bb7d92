-- Where the records fit, the tape has them as they are.
use Rattle.std.proofs.Common.{◌≡◌, ℕ, zero, suc, ◌+◌, ◌-◌, ◌≤◌, List, [], ◌∷◌, ◌++◌, length, sym, refl, ap, ◌∙◌, add-zero, arith}
use Rattle.std.proofs.lemmas.List.{length_push}
use Rattle.formula.specs.Limits.{max_records}
use Rattle.formula.specs.declared.record.Record.{Record}
use Rattle.formula.specs.declared.record.Record.TheVariants.{Constant, Letter, Sum, Difference, Product, Negation}
use Rattle.formula.specs.Tapes.{last_number, powered}
use Rattle.formula.specs.Formulas.{Formula}
use Rattle.formula.specs.Records.{joined, products, written}
use Rattle.formula.specs.Formulas.Formula.{constant, letter, sum, difference, product, negation, power}
use Rattle.formula.specs.Follow.{put}

powered-length : (e : List Record) (k : ℕ) → length (powered e k) ≡ length e + k
powered-length e zero = sym (add-zero (length e))
powered-length e (suc k) = omega (arith, powered-length e k, length_push (powered e k) (Product (last_number (powered e k)) (last_number e)))

products-length : (b : ℕ) (e : List Record) (k : ℕ) → length (products b e k) ≡ length e + k
products-length b e zero = omega arith
products-length b e (suc k) = products-length b (e ++ Product (length e - 1) b ∷ []) k ∙ omega (arith, length_push e (Product (length e - 1) b))

-- both give as many records
pub same_length : (f : Formula) (e e' : List Record) → length e ≡ length e' → length (put e f) ≡ length (written e' f)
same_length (constant n) e e' h = length_push e _ ∙ ap (λ k. k + 1) h ∙ sym (length_push e' _)
same_length (letter n) e e' h = length_push e _ ∙ ap (λ k. k + 1) h ∙ sym (length_push e' _)
same_length (sum f g) e e' h = length_push (put (put e f) g) _ ∙ ap (λ k. k + 1) (same_length g _ _ (same_length f e e' h)) ∙ sym (length_push (written (written e' f) g) _)
same_length (difference f g) e e' h = length_push (put (put e f) g) _ ∙ ap (λ k. k + 1) (same_length g _ _ (same_length f e e' h)) ∙ sym (length_push (written (written e' f) g) _)
same_length (product f g) e e' h = length_push (put (put e f) g) _ ∙ ap (λ k. k + 1) (same_length g _ _ (same_length f e e' h)) ∙ sym (length_push (written (written e' f) g) _)
same_length (negation f) e e' h = length_push (put e f) _ ∙ ap (λ k. k + 1) (same_length f e e' h) ∙ sym (length_push (written e' f) _)
same_length (power f k) e e' h =
    powered-length (put e f) (k - 1)
    ∙ ap (λ n. n + (k - 1)) (same_length f e e' h)
    ∙ sym (products-length (length (written e' f) - 1) (written e' f) (k - 1))

pub grows : (f : Formula) (e : List Record) → length e ≤ length (put e f)
grows (constant n) e = omega (arith, length_push e (Constant n))
grows (letter n) e = omega (arith, length_push e (Letter n))
grows (sum f g) e = omega (arith, grows f e, grows g (put e f), length_push (put (put e f) g) (Sum (last_number (put e f)) (last_number (put (put e f) g))))
grows (difference f g) e = omega (arith, grows f e, grows g (put e f), length_push (put (put e f) g) (Difference (last_number (put e f)) (last_number (put (put e f) g))))
grows (product f g) e = omega (arith, grows f e, grows g (put e f), length_push (put (put e f) g) (Product (last_number (put e f)) (last_number (put (put e f) g))))
grows (negation f) e = omega (arith, grows f e, length_push (put e f) (Negation (last_number (put e f))))
grows (power f k) e = omega (arith, grows f e, powered-length (put e f) (k - 1))

-- the last of the products
products_last : (b : ℕ) (e : List Record) (k : ℕ) → products b e (suc k) ≡ products b e k ++ Product (length (products b e k) - 1) b ∷ []
products_last b e zero = refl
products_last b e (suc k) = products_last b (e ++ Product (length e - 1) b ∷ []) k

powers-products : (e : List Record) (k : ℕ) → length e + k ≤ max_records → powered e k ≡ products (length e - 1) e k
powers-products e zero h = refl
powers-products e (suc k) h =
    let one : last_number (powered e k) ≡ length (powered e k) - 1 = omega (arith, powered-length e k) in
    let two : last_number e ≡ length e - 1 = omega arith in
    (λ i. powered e k ++ Product (one i) (two i) ∷ [])
    ∙ ap (λ l. l ++ Product (length l - 1) (length e - 1) ∷ []) (powers-products e k (omega arith))
    ∙ sym (products_last (length e - 1) e k)

-- two operands and their operator
both : (make : ℕ → ℕ → Record) (f g : Formula) (e : List Record) → length (put (put e f) g) + 1 ≤ max_records → put e f ≡ written e f → put (put e f) g ≡ written (put e f) g → put (put e f) g ++ make (last_number (put e f)) (last_number (put (put e f) g)) ∷ [] ≡ joined make (written e f) (written (written e f) g)
both make f g e h p q =
    let one : last_number (put e f) ≡ length (put e f) - 1 = omega (arith, grows g (put e f)) in
    let two : last_number (put (put e f) g) ≡ length (put (put e f) g) - 1 = omega arith in
    ap (λ n. put (put e f) g ++ make n (last_number (put (put e f) g)) ∷ []) one
    ∙ ap (λ n. put (put e f) g ++ make (length (put e f) - 1) n ∷ []) two
    ∙ ap (joined make (put e f)) q
    ∙ ap (λ a. joined make a (written a g)) p

pub uncapped : (f : Formula) (e : List Record) → length (put e f) ≤ max_records → put e f ≡ written e f
uncapped (constant n) e h = refl
uncapped (letter n) e h = refl
uncapped (sum f g) e h =
    let long = length_push (put (put e f) g) (Sum (last_number (put e f)) (last_number (put (put e f) g))) in
    both Sum f g e (omega arith) (uncapped f e (omega (arith, grows g (put e f)))) (uncapped g (put e f) (omega arith))
uncapped (difference f g) e h =
    let long = length_push (put (put e f) g) (Difference (last_number (put e f)) (last_number (put (put e f) g))) in
    both Difference f g e (omega arith) (uncapped f e (omega (arith, grows g (put e f)))) (uncapped g (put e f) (omega arith))
uncapped (product f g) e h =
    let long = length_push (put (put e f) g) (Product (last_number (put e f)) (last_number (put (put e f) g))) in
    both Product f g e (omega arith) (uncapped f e (omega (arith, grows g (put e f)))) (uncapped g (put e f) (omega arith))
uncapped (negation f) e h =
    let long = length_push (put e f) (Negation (last_number (put e f))) in
    let one : last_number (put e f) ≡ length (put e f) - 1 = omega arith in
    ap (λ n. put e f ++ Negation n ∷ []) one ∙ ap (λ a. a ++ Negation (length a - 1) ∷ []) (uncapped f e (omega arith))
uncapped (power f k) e h =
    let long : length (put e f) + (k - 1) ≤ max_records = omega (arith, powered-length (put e f) (k - 1)) in
    powers-products (put e f) (k - 1) long
    ∙ ap (λ a. products (length a - 1) a (k - 1)) (uncapped f e (omega arith))
