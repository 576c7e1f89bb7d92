-- The product of bytes, on numbers. A byte acts on the bytes as a sum of shifts. A sum of shifts goes through the
-- exclusive-or, so any two such sums commute: this gives the laws of the product.
use Rattle.std.specs.Prelude.{◌≡◌, ℕ, zero, suc, ◌+◌, ◌-◌, ◌/◌, ◌%◌, ◌<◌, Bool, true, false, cond, ◌≢◌, ◌==◌, bit_xor, nat_eq, nat_lt, refl}
use Rattle.std.proofs.Common.{sym, ◌∙◌, add-suc, add-zero, add-sub_of_le, le_of_lt, le_of_suc-le-suc, lit<}
use Rattle.std.proofs.Math.Path.{ap, ap₂}
use Rattle.std.specs.Int.Bits.{xor_assoc, xor_self}
use Rattle.std.proofs.lemmas.Nat.{xor_comm, xor_lt}
use Rattle.std.proofs.lemmas.Bool.{ltb-true}
use Rattle.byte.specs.Bytes.{shifted, selected, times, power, three_to, inverse_byte}
use Rattle.domain.proofs.Tests.{at, agree_at, agree-at-two}

-- facts that are computed at each byte, or at each two

shifted-lt : (a : ℕ) → a < 256 → shifted a < 256
unfolding shifted
shifted-lt a h = ltb-true (shifted a) 256 (at 256 (λ k. nat_lt (shifted k) 256) refl a h)

shifted-xor : (a b : ℕ) → a < 256 → b < 256 → shifted (bit_xor a b) ≡ bit_xor (shifted a) (shifted b)
unfolding shifted
shifted-xor = agree-at-two 256 (λ a b. shifted (bit_xor a b)) (λ a b. bit_xor (shifted a) (shifted b)) refl

pub times-one : (a : ℕ) → a < 256 → times a 1 ≡ a
unfolding times selected shifted
times-one = agree_at 256 (λ a. times a 1) (λ a. a) refl

pub times_inverse : (a : ℕ) → suc a < 256 → times (suc a) (inverse_byte (suc a)) ≡ 1
unfolding times selected shifted power
times_inverse a h = agree_at 255 (λ a. times (suc a) (inverse_byte (suc a))) (λ a. 1) refl a (le_of_suc-le-suc h)

-- b if a bit selects it, else 0

pick_lt : (t : Bool) (b : ℕ) → b < 256 → cond t b 0 < 256
pick_lt true b h = h
pick_lt false b h = lit< tt

pick_through : (t : Bool) (f : ℕ → ℕ) → f 0 ≡ 0 → (b : ℕ) → f (cond t b 0) ≡ cond t (f b) 0
pick_through true f e b = refl
pick_through false f e b = e

pick_xor : (t : Bool) (b c : ℕ) → cond t (bit_xor b c) 0 ≡ bit_xor (cond t b 0) (cond t c 0)
pick_xor true b c = refl
pick_xor false b c = refl

-- sums of shifts

selected-lt : (n a b : ℕ) → b < 256 → selected n a b < 256
unfolding selected
selected-lt zero a b h = lit< tt
selected-lt (suc n) a b h =
    xor_lt 8 (cond (a % 2 == 1) b 0) (selected n (a / 2) (shifted b)) (pick_lt (a % 2 == 1) b h) (selected-lt n (a / 2) (shifted b) (shifted-lt b h))

xor_swap : (a b c d : ℕ) → bit_xor (bit_xor a b) (bit_xor c d) ≡ bit_xor (bit_xor a c) (bit_xor b d)
xor_swap a b c d = cc (xor_assoc a b (bit_xor c d), xor_assoc b c d, xor_comm b c, xor_assoc c b d, xor_assoc a c (bit_xor b d))

selected-xor : (n a b c : ℕ) → b < 256 → c < 256 → selected n a (bit_xor b c) ≡ bit_xor (selected n a b) (selected n a c)
unfolding selected
selected-xor zero a b c hb hc = refl
selected-xor (suc n) a b c hb hc =
    let t = nat_eq (a % 2) 1 in
    let sum = selected n (a / 2) in
    ap₂ bit_xor (pick_xor t b c) (ap sum (shifted-xor b c hb hc) ∙ selected-xor n (a / 2) (shifted b) (shifted c) (shifted-lt b hb) (shifted-lt c hc))
    ∙ xor_swap (cond t b 0) (cond t c 0) (sum (shifted b)) (sum (shifted c))

-- what goes through the exclusive-or and through shifts goes through sums of shifts
module _ (f : ℕ → ℕ) (adds : (a b : ℕ) → a < 256 → b < 256 → f (bit_xor a b) ≡ bit_xor (f a) (f b)) (shifts : (a : ℕ) → a < 256 → f (shifted a) ≡ shifted (f a)) where
  at_zero : f 0 ≡ 0
  at_zero = adds 0 0 (lit< tt) (lit< tt) ∙ xor_self (f 0)

  through : (n a b : ℕ) → b < 256 → f (selected n a b) ≡ selected n a (f b)
  unfolding selected
  through zero a b h = at_zero
  through (suc n) a b h =
      let t = nat_eq (a % 2) 1 in
      let sum = selected n (a / 2) in
      adds (cond t b 0) (sum (shifted b)) (pick_lt t b h) (selected-lt n (a / 2) (shifted b) (shifted-lt b h))
      ∙ ap₂ bit_xor (pick_through t f at_zero b) (through n (a / 2) (shifted b) (shifted-lt b h) ∙ ap sum (shifts b h))

-- the worked products of FIPS 197, sections 4.2 and 4.2.1
examples : (times 87 131 ≡ 193) × (times 87 19 ≡ 254)
unfolding times selected shifted
examples = (refl, refl)

-- the laws of the product

pub times-lt : (a b : ℕ) → b < 256 → times a b < 256
unfolding times
times-lt a b h = selected-lt 8 a b h

pub times-xor : (a b c : ℕ) → b < 256 → c < 256 → times a (bit_xor b c) ≡ bit_xor (times a b) (times a c)
unfolding times
times-xor a b c hb hc = selected-xor 8 a b c hb hc

-- a shift goes through products
times-shifted : (a b : ℕ) → b < 256 → times a (shifted b) ≡ shifted (times a b)
unfolding times
times-shifted a b h = sym (through shifted shifted-xor (λ c k. refl) 8 a b h)

-- and so one product goes through another
times_swap : (a b c : ℕ) → c < 256 → times a (times b c) ≡ times b (times a c)
unfolding times
times_swap a b c h = through (times a) (times-xor a) (times-shifted a) 8 b c h

pub times_comm : (a b : ℕ) → a < 256 → b < 256 → times a b ≡ times b a
times_comm a b ha hb = cc (times-one a ha, times-one b hb, times_swap a b 1 (lit< tt))

pub times_assoc : (a b c : ℕ) → a < 256 → b < 256 → c < 256 → times (times a b) c ≡ times a (times b c)
times_assoc a b c ha hb hc = cc (times_comm (times a b) c (times-lt a b hb) hc, times_swap c a b hb, times_comm c b hc hb)

pub zero-times : (b : ℕ) → times 0 b ≡ 0
unfolding times selected
zero-times b = refl

pub times_zero : (a : ℕ) → times a 0 ≡ 0
times_zero a = at_zero (times a) (times-xor a) (times-shifted a)

-- a byte has one inverse at most
only_inverse : (a b c : ℕ) → b < 256 → c < 256 → times a b ≡ 1 → times a c ≡ 1 → b ≡ c
only_inverse a b c hb hc eb ec = cc (times-one b hb, times_swap b a c hc, times_comm b c hb hc, times_swap c a b hb, times-one c hc)

-- powers

pub power-lt : (a n : ℕ) → power a n < 256
unfolding power
power-lt a zero = lit< tt
power-lt a (suc n) = times-lt a (power a n) (power-lt a n)

power-add : (a m n : ℕ) → power a (m + n) ≡ times (power a m) (power a n)
unfolding power
power-add a m zero = ap (power a) (add-zero m) ∙ sym (times-one (power a m) (power-lt a m))
power-add a m (suc n) = ap (power a) (add-suc m n) ∙ ap (times a) (power-add a m n) ∙ times_swap a (power a m) (power a n) (power-lt a n)

three_to_255 : three_to 255 ≡ 1
unfolding power times selected shifted
three_to_255 = refl

-- products and inverses by exponents

pub product_by : (a b i j : ℕ) → three_to i ≡ a → three_to j ≡ b → three_to (i + j) ≡ times a b
product_by a b i j ea eb = power-add 3 i j ∙ ap₂ times ea eb

pub inverse_by : (a i : ℕ) → a < 256 → a ≢ 0 → i < 255 → three_to i ≡ a → three_to (255 - i) ≡ inverse_byte a
inverse_by zero i ha some hi e = absurd (some refl)
inverse_by (suc a) i ha some hi e =
    only_inverse (suc a) (three_to (255 - i)) (inverse_byte (suc a)) (power-lt 3 (255 - i)) (power-lt (suc a) 254)
    (sym (product_by (suc a) (three_to (255 - i)) i (255 - i) e refl) ∙ ap three_to (add-sub_of_le (le_of_lt hi)) ∙ three_to_255)
    (times_inverse a ha)
