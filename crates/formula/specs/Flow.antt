-- The bytes of a flow.
use Rattle.std.specs.Prelude.{◌≡◌, ℕ, ◌+◌, ◌*◌, ◌/◌, ◌%◌, ◌<◌, Bool, cond, ◌&&◌, List, [], ◌∷◌, ◌++◌, Ok, Err, Result, ◌==◌, nat_lt, slice_index}
use Rattle.domain.specs.declared.fault.Fault.{Fault}
use Rattle.domain.specs.declared.fault.Fault.TheVariants.{Malformed}
use Rattle.formula.specs.declared.fields.Fields.{Fields}
use Rattle.formula.specs.declared.record.Record.{Record}
use Rattle.formula.specs.declared.record.Record.TheVariants.{Constant, Letter, Sum, Difference, Product, Negation}

-- the fields of each kind of record; those that a kind does not use are 0
abbrev pub fields : Record → Fields
fields (Constant n) = record { kind = 0; letter = 0; left = 0; right = n }
fields (Letter i) = record { kind = 1; letter = i; left = 0; right = 0 }
fields (Sum l r) = record { kind = 2; letter = 0; left = l; right = r }
fields (Difference l r) = record { kind = 3; letter = 0; left = l; right = r }
fields (Product l r) = record { kind = 4; letter = 0; left = l; right = r }
fields (Negation l) = record { kind = 5; letter = 0; left = l; right = 0 }

-- a number in two bytes, the lowest first
abbrev pub two : ℕ → List ℕ
two n = n % 256 ∷ n / 256 % 256 ∷ []

-- a number in four bytes, the lowest first
abbrev pub four : ℕ → List ℕ
four n = n % 256 ∷ n / 256 % 256 ∷ n / 65536 % 256 ∷ n / 16777216 % 256 ∷ []

-- the eight bytes of the fields
abbrev pub field_bytes : Fields → List ℕ
field_bytes f = f.kind ∷ f.letter ∷ (two f.left ++ four f.right)

-- the eight bytes of a record
abbrev pub encoded : Record → List ℕ
encoded r = field_bytes (fields r)

-- the bytes of a flow: its records', one after another
abbrev pub flow_bytes : List Record → List ℕ
flow_bytes [] = []
flow_bytes (r ∷ rs) = encoded r ++ flow_bytes rs

-- the byte at a place
abbrev byte : List ℕ → ℕ → ℕ
byte bs i = slice_index bs i

-- the fields in eight bytes
abbrev pub fields_in : List ℕ → Fields
fields_in bs = record {
  kind = byte bs 0;
  letter = byte bs 1;
  left = byte bs 2 + byte bs 3 * 256;
  right = byte bs 4 + byte bs 5 * 256 + byte bs 6 * 65536 + byte bs 7 * 16777216;
}

-- whether a field that its kind does not use is 0
abbrev unused : ℕ → Bool
unused n = n == 0

-- the record, if the test holds, else refusal 10
abbrev provided : Bool → Record → Result Record Fault
provided b r = cond b (Ok r) (Err Malformed)

-- the operands of an operator with two, if both are records before the place
abbrev pub two_operands : ℕ → Fields → Result (ℕ × ℕ) Fault
two_operands place f = cond (unused f.letter && (nat_lt f.left place && nat_lt f.right place)) (Ok (f.left, f.right)) (Err Malformed)

-- the record of an operator with two operands, if both are records before the place
abbrev joining : ℕ → Fields → (ℕ → ℕ → Record) → Result Record Fault
joining place f make = provided (unused f.letter && (nat_lt f.left place && nat_lt f.right place)) (make f.left f.right)

-- the record with these fields at its place in a flow, or refusal 10: of an unknown kind, a letter over 15, an unused field that is not 0, an operand that is not an earlier record
abbrev pub formed : ℕ → Fields → Result Record Fault
formed place f =
    cond (f.kind == 0) (provided (unused f.letter && unused f.left) (Constant f.right))
    (cond (f.kind == 1) (provided (nat_lt f.letter 16 && (unused f.left && unused f.right)) (Letter f.letter))
    (cond (f.kind == 2) (joining place f Sum)
    (cond (f.kind == 3) (joining place f Difference)
    (cond (f.kind == 4) (joining place f Product)
    (cond (f.kind == 5) (provided (unused f.letter && (nat_lt f.left place && unused f.right)) (Negation f.left))
    (Err Malformed))))))

-- the record in eight bytes at its place in a flow, or refusal 10
abbrev pub decoded : ℕ → List ℕ → Result Record Fault
decoded place bs = formed place (fields_in bs)

-- the record may stand at the place: its letter is one, its operands are earlier records
abbrev pub Formed : ℕ → Record → Type 0
Formed place (Constant n) = Unit {0}
Formed place (Letter i) = i < 16
Formed place (Sum l r) = (l < place) × (r < place)
Formed place (Difference l r) = (l < place) × (r < place)
Formed place (Product l r) = (l < place) × (r < place)
Formed place (Negation l) = l < place

-- the record may stand at the place, and these are its bytes
pub record Stands (place : ℕ) (bs : List ℕ) (r : Record) : Type 0 where
  pub formed : Formed place r
  pub encoded : encoded r ≡ bs
