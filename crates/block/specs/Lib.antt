-- What access to a block's samples answers, and the number and values of each answer.
pub mod BlockAccess
pub mod Reports
