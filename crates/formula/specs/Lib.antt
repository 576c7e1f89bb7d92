-- What users trust: Limits, Signs, Formulas, Grammar, Records, Flow, Lines, Meaning, Answer, Theorems.
pub mod Answer
pub mod Flow
pub mod Formulas
pub mod Grammar
pub mod Limits
pub mod Lines
pub mod Meaning
pub mod Records
pub mod Signs
pub mod Theorems
-- What the reader's inner functions promise one another: Classes, Follow, Machine, Tapes.
pub mod Classes
pub mod Follow
pub mod Machine
pub mod Tapes
