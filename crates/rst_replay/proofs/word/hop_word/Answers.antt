use Rattle.std.proofs.Common.{◌≡◌, ◌∙◌, ◌<◌, ◌++◌, [], ◌∷◌, ap, arith}
use Rattle.rst_replay.proofs.Reading.{next_below, word_turn, word_end}
use Rattle.rst_replay.proofs.word.hop_word.Goals as goal

pub follow-preserved : goal.follow-preserved
follow-preserved c =
    let hops = c.args.hops.now in
    let hop = c.index-hops-at.result in
    let input : c.in_ok-from_slice.field-0 ≡ hop.input = c.in_ok-from_slice.ensures ∙ c.as_slice.ensures in
    let more : c.push.new.self ≡ c.follow.word ++ hop.input ∷ [] = c.in_ok-push.ensures.ok ∙ ap (λ item. c.follow.word ++ item ∷ []) input in
    let before : c.in-Some.next < c.follow.at =
    next_below hops c.follow.at hop c.in-Some.next c.requires.nexts c.follow.invariant.below c.index-hops-at.is c.in-Some.is in
    record {
      below = omega arith;
      rest = word_turn hops c.follow.at hop c.in-Some.next _ c.follow.word c.push.new.self c.requires.nexts c.follow.invariant.below c.index-hops-at.is
          c.in-Some.is c.follow.invariant.rest more;
    }

pub returns-in-None : goal.returns-in-None
returns-in-None c =
    let hops = c.args.hops.now in
    let hop = c.index-hops-at.result in
    let input : c.in_ok-from_slice.field-0 ≡ hop.input = c.in_ok-from_slice.ensures ∙ c.as_slice.ensures in
    let more : c.push.new.self ≡ c.follow.word ++ hop.input ∷ [] = c.in_ok-push.ensures.ok ∙ ap (λ item. c.follow.word ++ item ∷ []) input in
    word_end hops c.follow.at hop _ c.follow.word c.push.new.self c.requires.nexts c.follow.invariant.below c.index-hops-at.is
    c.in-None.is c.follow.invariant.rest more
