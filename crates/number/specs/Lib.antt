-- What contracts of callers name and rfc9639 does not define.
pub mod Private
