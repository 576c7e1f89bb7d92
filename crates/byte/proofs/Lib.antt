pub mod TableRules
