-- What a refusal is called, and a step of the code beside a step of the rules.
pub mod Carried
pub mod Answers
