-- Filling a table by hand.
use Rattle.std.specs.Prelude.{◌≡◌, ℕ, ◌+◌, ◌<◌, ◌≤◌, true, List, [], ◌∷◌, ◌++◌, length, slice_index, slice_index_or}
use Rattle.domain.specs.Model.{Model}
use Rattle.domain.specs.Numbers.{no_code}
use Rattle.domain.specs.declared.fault.Fault.{Fault}
use Rattle.domain.specs.declared.fault.Fault.TheVariants.{UnknownLetter, Unlawful, Full}
use Rattle.diagram.specs.Checks.{Else, Never}
use Rattle.diagram.specs.declared.entry.Edge.{Edge}
use Rattle.diagram.specs.declared.entry.Entry.{Entry}

-- the letters have x
abbrev pub Named : List ℕ → ℕ → Type 0
Named ls x = (i : ℕ) × (i < length ls) × (slice_index ls i ≡ x)

-- e is the entry of this letter and these edges, which may stand after n others
pub record Fits {E : Type 0} (M : Model E) (ls : List ℕ) (n : ℕ) (letter : ℕ) (additive multiplicative : Edge) (e : Entry) : Type 0 where
  pub known : e.letter < length ls
  pub names : slice_index_or ls e.letter 0 ≡ letter
  pub left : e.additive ≡ additive
  pub right : e.multiplicative ≡ multiplicative
  pub coded_left : M.coded additive.weight ≡ true
  pub coded_right : M.coded multiplicative.weight ≡ true
  pub low_left : additive.target ≤ n
  pub low_right : multiplicative.target ≤ n

-- why there is no such entry: 3, then 4, then 5; or a later refusal
abbrev pub Misfit : {E : Type 0} → Model E → List ℕ → ℕ → ℕ → Edge → Edge → (Fault → Type 0) → Fault → Type 0
Misfit M ls n letter additive multiplicative rest =
    Else (Named ls letter) (UnknownLetter letter)
    (Else (M.coded additive.weight ≡ true) (no_code additive.weight)
    (Else (M.coded multiplicative.weight ≡ true) (no_code multiplicative.weight)
    (Else (additive.target ≤ n) (Unlawful additive.target)
    (Else (multiplicative.target ≤ n) (Unlawful multiplicative.target) rest))))

-- e was put at the end of es and has the number r
pub record Appended (es fs : List Entry) (capacity : ℕ) (e : Entry) (r : ℕ) : Type 0 where
  pub room : length es < capacity
  pub number : r ≡ length es + 1
  pub more : fs ≡ es ++ (e ∷ [])

-- some entry of this letter and these edges was
pub record Filled {E : Type 0} (M : Model E) (ls : List ℕ) (es fs : List Entry) (capacity letter : ℕ) (additive multiplicative : Edge) (r : ℕ) : Type 0 where
  pub entry : Entry
  pub fits : Fits M ls (length es) letter additive multiplicative entry
  pub appended : Appended es fs capacity entry r

-- why it was not: 3, then 4, then 5, then 8
abbrev pub BadFilling : {E : Type 0} → Model E → List ℕ → List Entry → ℕ → ℕ → Edge → Edge → Fault → Type 0
BadFilling M ls es capacity letter additive multiplicative =
    Misfit M ls (length es) letter additive multiplicative (Else (length es < capacity) (Full capacity) Never)
