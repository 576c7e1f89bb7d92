-- The bytes are a field.
use Rattle.std.specs.Prelude.{◌≡◌, ℕ, zero, suc, ◌%◌, ◌<◌, true, ◌≢◌, bit_xor, unsigned_abs, refl}
use Rattle.std.proofs.Common.{ap, ◌∙◌, mod-eq_of_lt, arith}
use Prim.Native.Nat.{Fin}
use Rattle.std.specs.Int.Bits.{xor_assoc, xor_self, xor_zero_r}
use Rattle.std.proofs.lemmas.Nat.{xor_comm, xor_lt}
use Rattle.std.proofs.lemmas.Bool.{lt-ltb}
use Rattle.domain.specs.declared.number.Number.{Number}
use Rattle.byte.specs.Bytes.{times, inverse_byte, byte_ring, bytes}
use Rattle.domain.specs.Fields.{FieldLaws}
use Rattle.domain.specs.Numbers.{below}
use Rattle.domain.specs.Remainders.{remainder}
use Rattle.domain.specs.Ring.{Laws}
use Rattle.byte.specs.ByteProducts.{times-lt, times-xor, times-one, times_comm, times_assoc, times_inverse, power-lt}
use Rattle.domain.proofs.Coded.{plain_number, magnitude_below, again, back}

abbrev wrap : ℕ → Fin 256
wrap = remainder 255

-- wrapping leaves a byte as it is
wrap-byte : (a : Fin 256) → wrap a.0 ≡ a
wrap-byte a = native.Mathlib.Fin.val_path (mod-eq_of_lt a.1)

-- an associative operation stays so when its results are wrapped
wrap_assoc : (op : ℕ → ℕ → ℕ) → ((a b : ℕ) → a < 256 → b < 256 → op a b < 256) → ((a b c : ℕ) → a < 256 → b < 256 → c < 256 → op (op a b) c ≡ op a (op b c))
    → (a b c : Fin 256) → wrap (op (op a.0 b.0 % 256) c.0) ≡ wrap (op a.0 (op b.0 c.0 % 256))
wrap_assoc op closed assoc a b c =
    let left = mod-eq_of_lt (closed a.0 b.0 a.1 b.1) in
    let right = mod-eq_of_lt (closed b.0 c.0 b.1 c.1) in
    ap wrap (cc (left, right, assoc a.0 b.0 c.0 a.1 b.1 c.1))

wrap-add : (a b c : Fin 256) → wrap (times a.0 (bit_xor b.0 c.0 % 256)) ≡ wrap (bit_xor (times a.0 b.0 % 256) (times a.0 c.0 % 256))
wrap-add a b c =
    let sum = mod-eq_of_lt (xor_lt 8 b.0 c.0 b.1 c.1) in
    let first = mod-eq_of_lt (times-lt a.0 b.0 b.1) in
    let second = mod-eq_of_lt (times-lt a.0 c.0 c.1) in
    ap wrap (cc (sum, first, second, times-xor a.0 b.0 c.0 b.1 c.1))

byte_ring_laws : Laws byte_ring
byte_ring_laws = record {
  add_assoc = wrap_assoc bit_xor (xor_lt 8) (λ a b c ha hb hc. xor_assoc a b c);
  add_comm = λ a b. ap wrap (xor_comm a.0 b.0);
  add-zero = λ a. ap wrap (xor_zero_r a.0) ∙ wrap-byte a;
  add_neg = λ a. ap wrap (xor_self a.0);
  mul_assoc = wrap_assoc times (λ a b ha hb. times-lt a b hb) times_assoc;
  mul_comm = λ a b. ap wrap (times_comm a.0 b.0 a.1 b.1);
  mul-one = λ a. ap wrap (times-one a.0 a.1) ∙ wrap-byte a;
  mul-add = wrap-add;
}

-- the power 254 of a code other than zero is its inverse
inverse_unit : (a : Number) → below 256 a ≡ true → bytes.value a ≢ bytes.ring.zero → bytes.ring.mul (bytes.value a) (bytes.value (bytes.inverse a)) ≡ bytes.ring.one
inverse_unit a c h = at (unsigned_abs a.int) (magnitude_below 256 a c) h
  where
    at : (n : ℕ) → n < 256 → wrap n ≢ wrap 0 → wrap (times (n % 256) (inverse_byte n % 256)) ≡ wrap 1
    at zero l h = absurd (h refl)
    at (suc n) l h =
        let e : times (suc n % 256) (inverse_byte (suc n) % 256) ≡ 1 = cc (mod-eq_of_lt l, mod-eq_of_lt (power-lt (suc n) 254), times_inverse n l) in
        ap wrap e

pub bytes_laws : FieldLaws bytes
bytes_laws = record {
  laws = byte_ring_laws;
  apart = λ e. let z : ◌≡◌ {A = ℕ} 0 1 = ap (λ x. x.0) e in omega arith;
  inverts = λ a c h. (lt-ltb (inverse_byte (unsigned_abs a.int)) 256 (power-lt (unsigned_abs a.int) 254), inverse_unit a c h);
  plain = λ a c. let n = plain_number 256 a c in (n.0, n.1, omega (arith, n.2));
  only = again 255;
  has = back 255;
  code_zero = refl;
  code_one = refl;
}
