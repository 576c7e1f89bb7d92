-- The bytes of formula texts.
use Rattle.std.specs.Prelude.{ℕ}

-- ' '
abbrev pub sign_space : ℕ
sign_space = 32

-- '('
abbrev pub sign_open : ℕ
sign_open = 40

-- ')'
abbrev pub sign_close : ℕ
sign_close = 41

-- '*'
abbrev pub sign_times : ℕ
sign_times = 42

-- '+'
abbrev pub sign_plus : ℕ
sign_plus = 43

-- '-'
abbrev pub sign_minus : ℕ
sign_minus = 45

-- '^'
abbrev pub sign_caret : ℕ
sign_caret = 94

-- '0', before the nine other digits
abbrev pub first_digit : ℕ
first_digit = 48

-- 'a', before the fifteen other letters
abbrev pub first_letter : ℕ
first_letter = 97
