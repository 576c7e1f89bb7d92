-- The words of a query, put together from the first word and what follows it.
use Rattle.std.proofs.Common.{◌≡◌, ℕ, List, [], ◌∷◌, Option, Some, Result, Ok, Err, refl, sym, subst, ◌∙◌}
use Rattle.std.proofs.lemmas.Option.{none-some}
use Rattle.std.specs.Result.{result_ok}
use Rattle.std.specs.Char.{is_not_whitespace}
use Rattle.std.specs.Str.{NoCharPasses}
use Rattle.domain.specs.declared.number.Number.{Number}
use Rattle.calc.specs.declared.asking.Question.{Question}
use Rattle.calc.specs.Questions.{IsFirstWord, AreFirstWords, AsksOne, AsksTwo, AsksFirst, IsFirstNumber, Asks}
use Rattle.calc.specs.Words.{domain_word}

pub asks_one : {name word text after rest : List ℕ} {a : Number} → IsFirstWord text word after → word ≡ name → IsFirstNumber after a rest
    → (words : List (List ℕ)) × AreFirstWords text words rest × AsksOne name words a
asks_one {name} {text} {after} {rest} first named (x, second, n) =
    (name ∷ x ∷ [], (after, subst (λ w. IsFirstWord text w after) named first, (rest, second, refl)), (x, refl, n))

pub asks_two : {name word text after then rest : List ℕ} {a b : Number} → IsFirstWord text word after → word ≡ name → IsFirstNumber after a then → IsFirstNumber then b rest
    → (words : List (List ℕ)) × AreFirstWords text words rest × AsksTwo name words a b
asks_two {name} {text} {after} {then} {rest} first named (x, second, m) (y, third, n) =
    (name ∷ x ∷ y ∷ [], (after, subst (λ w. IsFirstWord text w after) named first, (then, second, (rest, third, refl))), (x, y, refl, m, n))

pub asks_all : {line text word after rest : List ℕ} (question : Question) → text ≡ line → IsFirstWord text word after → word ≡ domain_word question.domain
    → AsksFirst after question.query rest → NoCharPasses is_not_whitespace rest → Asks line question
asks_all {line} {text} {after = after} {rest} question whole first named (words, spelled, asked) blank =
    let start = subst (λ w. IsFirstWord text w after) named first in
    (words, (rest, (after, subst (λ t. IsFirstWord t (domain_word question.domain) after) whole start, spelled), blank), asked)

-- the result whose `ok` gave x
pub ok_gave : {T E : Type 0} (r : Result T E) {o : Option T} {x : T} → o ≡ result_ok r → o ≡ Some x → r ≡ Ok x
ok_gave (Ok y) a b = cc (a, b)
ok_gave (Err e) {x} a b = absurd (none-some x (sym a ∙ b))
