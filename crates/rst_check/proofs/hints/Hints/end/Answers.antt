use Rattle.std.proofs.Common.{◌≡◌, ◌∙◌, ◌∷◌, [], ◌++◌, rules}
use Rattle.rst_check.proofs.HintSteps.{rising_end}
use Rattle.rst_check.proofs.hints.Hints.end.Goals as goal

pub invariant_of-self-2 : goal.invariant_of-self-2
invariant_of-self-2 c =
    let ends : c.push.new.self.items ≡ c.self.inside.ends.items ++ c.len-end.result ∷ [] = search rules in
    rising_end c.self.inside.numbers.items c.self.inside.ends.items c.push.new.self.items c.len-end.result c.self.invariant (c.len-end.ensures ∙ c.self.inside.numbers.ok.0) ends
