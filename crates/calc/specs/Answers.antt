-- What each question is answered, over the meaning of the domain that is asked.
use Rattle.std.specs.Prelude.{Some, None, Ok, Err, Option, Result}
use Rattle.calc.specs.declared.answering.Answer.{Answer}
use Rattle.calc.specs.declared.answering.Answer.TheVariants.{Truth, Natural, Element, Triple}
use Rattle.calc.specs.declared.asking.DomainName.{DomainName}
use Rattle.calc.specs.declared.asking.DomainName.TheVariants.{Whole, Residue, Byte}
use Rattle.calc.specs.declared.asking.Query.{Query}
use Rattle.calc.specs.declared.asking.Query.TheVariants.{Code, Limit, Size, Negation, Sum, Product, Factor, Inverse}
use Rattle.calc.specs.declared.asking.Question.{Question}
use Rattle.calc.specs.declared.no_answer.NoAnswer.{NoAnswer}
use Rattle.calc.specs.declared.no_answer.NoAnswer.TheVariants.{NotUnderstood, Refused}
use Rattle.domain.specs.declared.fault.Fault.{Fault}
use Rattle.domain.specs.declared.number.Number.{Number}
use Rattle.domain.specs.Answers.{sized, negated, added, multiplied, factored, inverted}
use Rattle.byte.specs.Bytes.{bytes}
use Rattle.domain.specs.Fields.{domain_of}
use Rattle.whole.specs.Integers.{integers}
use Rattle.domain.specs.Model.{Model}
use Rattle.residue.specs.Residues.{residues}

-- an answer of a domain's function, or its refusal
abbrev pub told : {X : Type 0} → (X → Answer) → Result X Fault → Result Answer NoAnswer
told f (Ok x) = Ok (f x)
told f (Err e) = Err (Refused e)

-- a domain that is no field has no inverse
abbrev pub asked : {E : Type 0} → Model E → Query → Result Answer NoAnswer
asked M (Code a) = Ok (Truth (M.coded a))
asked M Limit = Ok (Natural M.limit)
asked M (Size a) = told Natural (sized M a)
asked M (Negation a) = told Element (negated M a)
asked M (Sum a b) = told Element (added M a b)
asked M (Product a b) = told Element (multiplied M a b)
asked M (Factor a b) = told (λ t. Triple t.0 t.1 t.2) (factored M a b)
asked M (Inverse a) = Err NotUnderstood

abbrev pub field_asked : {E : Type 0} → Model E → (Number → Number) → Query → Result Answer NoAnswer
field_asked M inverse (Code a) = asked M (Code a)
field_asked M inverse Limit = asked M Limit
field_asked M inverse (Size a) = asked M (Size a)
field_asked M inverse (Negation a) = asked M (Negation a)
field_asked M inverse (Sum a b) = asked M (Sum a b)
field_asked M inverse (Product a b) = asked M (Product a b)
field_asked M inverse (Factor a b) = asked M (Factor a b)
field_asked M inverse (Inverse a) = told Element (inverted M inverse a)

-- the answer of a domain to a query
abbrev pub domain_asked : DomainName → Query → Result Answer NoAnswer
domain_asked Whole q = asked integers q
domain_asked Residue q = field_asked (domain_of residues) residues.inverse q
domain_asked Byte q = field_asked (domain_of bytes) bytes.inverse q

-- the answer to a line, as it was read
abbrev pub replied : Option Question → Result Answer NoAnswer
replied None = Err NotUnderstood
replied (Some question) = domain_asked question.domain question.query
