-- The limits of formula texts and flows.
use Rattle.std.specs.Prelude.{ℕ}

-- the bytes of a text that the reader takes
abbrev pub max_text : ℕ
max_text = 4096

-- the records of a flow
abbrev pub max_records : ℕ
max_records = 512

-- the parentheses that are open together
abbrev pub max_open : ℕ
max_open = 128

-- the highest exponent
abbrev pub max_exponent : ℕ
max_exponent = 48

-- the bytes of a record
abbrev pub record_size : ℕ
record_size = 8
