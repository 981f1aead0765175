use Rattle.std.proofs.Common.{◌≡◌, ◌<◌, ◌++◌, length}
use Rattle.rst_pair.specs.Hops.{word_of}
use Rattle.rst_replay.proofs.word.hop_word.Given as goal

abbrev pub invariant-follow : goal.invariant-follow
invariant-follow l = record {
  below : l.at < length l.hops;
  rest : word_of l.hops l.place ≡ l.word ++ word_of l.hops l.at;
}

abbrev pub decreases-follow : goal.decreases-follow
decreases-follow l = l.at
