-- The classes of bytes that the reader tells apart.
use Rattle.std.specs.Prelude.{ℕ, ◌+◌, ◌-◌, cond, ◌==◌, nat_le, nat_lt}
use Rattle.formula.specs.declared.class.Class.{Class}
use Rattle.formula.specs.declared.class.Class.TheVariants.{Space, Plus, Minus, Star, Caret, Open, Close, Letter, Digit, Other}
use Rattle.formula.specs.Signs.{sign_space, sign_open, sign_close, sign_times, sign_plus, sign_minus, sign_caret, first_digit, first_letter}

abbrev letter_class : ℕ → Class
letter_class b = cond (nat_le first_letter b) (cond (nat_lt b (first_letter + 16)) (Letter (b - first_letter)) Other) Other

abbrev digit_class : ℕ → Class
digit_class b = cond (nat_le first_digit b) (cond (nat_lt b (first_digit + 10)) (Digit (b - first_digit)) (letter_class b)) Other

abbrev pub classify : ℕ → Class
classify b =
    cond (b == sign_space) Space (cond (b == sign_plus) Plus (cond (b == sign_minus) Minus (cond (b == sign_times) Star
    (cond (b == sign_caret) Caret (cond (b == sign_open) Open (cond (b == sign_close) Close (digit_class b)))))))
