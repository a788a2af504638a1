-- What the exported functions promise, and what a private function answers.
pub mod Exports
pub mod Private
