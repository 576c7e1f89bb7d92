use Rattle.calc.proofs.Spelling.{asks_one, asks_two}
use Rattle.calc.proofs.reading.query_words.Goals as goal

pub returns-in_ok-next_number-in-code : goal.returns-in_ok-next_number-in-code
returns-in_ok-next_number-in-code c = asks_one c.in_ok-next.ensures.steps c.in-code.is c.in_ok-next_number-in-code.ensures

pub returns-in_ok-next_number-in-size : goal.returns-in_ok-next_number-in-size
returns-in_ok-next_number-in-size c = asks_one c.in_ok-next.ensures.steps c.in-size.is c.in_ok-next_number-in-size.ensures

pub returns-in_ok-next_number-in-negation : goal.returns-in_ok-next_number-in-negation
returns-in_ok-next_number-in-negation c = asks_one c.in_ok-next.ensures.steps c.in-negation.is c.in_ok-next_number-in-negation.ensures

pub returns-in_ok-next_number-in-inverse : goal.returns-in_ok-next_number-in-inverse
returns-in_ok-next_number-in-inverse c = asks_one c.in_ok-next.ensures.steps c.in-inverse.is c.in_ok-next_number-in-inverse.ensures

pub returns-in_ok-next_number-in-sum-2 : goal.returns-in_ok-next_number-in-sum-2
returns-in_ok-next_number-in-sum-2 c = asks_two c.in_ok-next.ensures.steps c.in-sum.is c.in_ok-next_number-in-sum.ensures c.in_ok-next_number-in-sum-2.ensures

pub returns-in_ok-next_number-in-product-2 : goal.returns-in_ok-next_number-in-product-2
returns-in_ok-next_number-in-product-2 c = asks_two c.in_ok-next.ensures.steps c.in-product.is c.in_ok-next_number-in-product.ensures c.in_ok-next_number-in-product-2.ensures

pub returns-in_ok-next_number-in-factor-2 : goal.returns-in_ok-next_number-in-factor-2
returns-in_ok-next_number-in-factor-2 c = asks_two c.in_ok-next.ensures.steps c.in-factor.is c.in_ok-next_number-in-factor.ensures c.in_ok-next_number-in-factor-2.ensures
