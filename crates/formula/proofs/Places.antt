use Rattle.std.proofs.Common.{◌≡◌, ℕ, List, [], ◌∷◌, ◌++◌, Some, None, Option, sym, refl, ap, ◌∙◌}
use Rattle.formula.specs.Formulas.{Formula}
use Rattle.formula.specs.Grammar.{Spells}
use Rattle.formula.specs.Machine.{Config, walk, finish, start, step}
use Rattle.formula.specs.Answer.{Starts}
use Rattle.formula.proofs.Complete.{complete}
use Rattle.formula.proofs.Sound.{sound, ends}

pub once : (f g : Formula) (s : List ℕ) → Spells f s → Spells g s → f ≡ g
once f g s x y = let p = complete f s x in let q = complete g s y in cc

walk_none : (t : List ℕ) → walk None t ≡ None
walk_none [] = refl
walk_none (b ∷ t) = refl

pub walk-++ : (o : Option Config) (a b : List ℕ) → walk o (a ++ b) ≡ walk (walk o a) b
walk-++ o [] b = refl
walk-++ None (x ∷ a) b = sym (walk_none b)
walk-++ (Some c) (x ∷ a) b = walk-++ (step c x) a b

pub starts : (w : List ℕ) (c : Config) → walk (Some start) w ≡ Some c → Starts w
starts w c e =
    let (t, f, x) = ends c in
    (t, f, sound f (w ++ t) (ap finish (walk-++ (Some start) w t ∙ ap (λ o. walk o t) e) ∙ x))

pub stops : (w : List ℕ) → walk (Some start) w ≡ None → Starts w → ⊥
stops w e (t, f, x) =
    let a = complete f (w ++ t) x in
    let b = ap finish (walk-++ (Some start) w t ∙ ap (λ o. walk o t) e ∙ walk_none t) in
    cc
