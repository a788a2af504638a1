-- The bytes after the first, as the definition reads them. Assumes nothing.
use Rattle.header.proofs.CodedNumber.{FollowersRead}
use Rattle.header.proofs.coded_number.read_followers.Given as goal

abbrev pub invariant-loop : goal.invariant-loop
invariant-loop l = FollowersRead l.s l.n l.v l.initial.p l.counter l.number l.p
