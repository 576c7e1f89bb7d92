-- The codes 0 to p, each standing for itself among the numbers below suc p.
use Rattle.std.proofs.Common.{◌≡◌, ℕ, suc, ◌<◌, true, ℤ, pos, negsuc, nat_abs, sym, refl, ap, ◌∙◌, mod-eq_of_lt, arith, ltb-true}
use mathlib.Core.Bool.{false≢true}
use Prim.Native.Nat.{Fin}
use Rattle.std.proofs.lemmas.Bool.{lt-ltb}
use Rattle.domain.specs.declared.number.Number.{Number}
use Rattle.domain.specs.Numbers.{number, below}
use Rattle.domain.specs.Remainders.{decoded, own_code}

pub plain_number : (m : ℕ) (a : Number) → below m a ≡ true → (n : ℕ) × (a ≡ number (pos n)) × (n < m)
plain_number m a c = go a.int c
  where
    go : (z : ℤ) → below m (number z) ≡ true → (n : ℕ) × (number z ≡ number (pos n)) × (n < m)
    go (pos n) c = (n, refl, ltb-true n m c)
    go (negsuc n) c = absurd (false≢true c)

pub magnitude_below : (m : ℕ) (a : Number) → below m a ≡ true → nat_abs a.int < m
magnitude_below m a c = let n = plain_number m a c in let e = ap (λ (b : Number). nat_abs b.int) n.1 in omega (arith, n.2, e)

module _ (p : ℕ) where
  pub again : (a : Number) → below (suc p) a ≡ true → own_code p (decoded p a) ≡ a
  again a c =
      let n = plain_number (suc p) a c in
      ap (λ (z : ℕ). number (pos z)) (mod-eq_of_lt (magnitude_below (suc p) a c) ∙ ap (λ (b : Number). nat_abs b.int) n.1) ∙ sym n.1

  pub back : (x : Fin (suc p)) → (below (suc p) (own_code p x) ≡ true) × (decoded p (own_code p x) ≡ x)
  back x = (lt-ltb x.0 (suc p) x.1, native.Mathlib.Fin.val_path (mod-eq_of_lt x.1))
