-- What this crate's functions answer where rfc9639 has no definition for it.
pub mod Extend
