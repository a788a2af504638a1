-- Document 01's number and values for each answer: 0 and what was asked for, or the refusal's number and zeros.
use Rattle.std.specs.Prelude.{ℕ, ℤ, pos, Result, Ok, Err}
use Rattle.error.specs.declared.Refusal.{Refusal}
use Rattle.error.specs.Numbers.{number_of}

pub record ChannelReport : Type 0 where
  pub number : ℕ
  pub start : ℕ
  pub end : ℕ

pub record SampleReport : Type 0 where
  pub number : ℕ
  pub value : ℤ

pub record PairReport : Type 0 where
  pub number : ℕ
  pub left : ℤ
  pub right : ℤ

abbrev pub channel_report : Result (ℕ × ℕ) Refusal → ChannelReport
channel_report (Ok r) = record { number = 0; start = r.0; end = r.1 }
channel_report (Err e) = record { number = number_of e; start = 0; end = 0 }

abbrev pub sample_report : Result ℤ Refusal → SampleReport
sample_report (Ok x) = record { number = 0; value = x }
sample_report (Err e) = record { number = number_of e; value = pos 0 }

abbrev pub pair_report : Result (ℤ × ℤ) Refusal → PairReport
pair_report (Ok r) = record { number = 0; left = r.0; right = r.1 }
pair_report (Err e) = record { number = number_of e; left = pos 0; right = pos 0 }
