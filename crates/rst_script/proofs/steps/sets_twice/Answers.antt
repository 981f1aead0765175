use Rattle.std.proofs.Common.{◌≡◌, ℕ, List, Bool, true, false, ap, refl, sym, ◌∙◌, arith}
use Rattle.std.specs.List.{list_any}
use Rattle.std.specs.Ordering.{is_eq}
use denote.Ref.{Bor}
use Rattle.rst_script.proofs.Names.{is_key, key_cmp, met_more, twice_more, not_false, not_true}
use Rattle.rst_script.proofs.steps.sets_twice.Goals as goal

-- whether the set has the key
abbrev is_found : List (Bor (List ℕ)) → Bor (List ℕ) → Bool
is_found keys key = list_any (λ (other : Bor (List ℕ)). is_eq (key_cmp key other)) keys

pub returns-then-not-branch : goal.returns-then-not-branch
returns-then-not-branch c =
    let found : is_found c.loop-setting.names.keys c.as_slice.result ≡ true = not_false _ (sym c.if-not-branch.true ∙ c.in_ok-insert.ensures.added) in
    sym (twice_more c.args.settings.now c.loop-setting.setting-index c.setting-item.result c.loop-setting.names.keys c.as_slice.result true (omega arith)
    c.setting-item.is c.as_slice.ensures found c.loop-setting.invariant.met) ∙ c.loop-setting.invariant.left

pub loop-setting-init : goal.loop-setting-init
loop-setting-init c = record { met = λ name. ap (λ (keys : List (Bor (List ℕ))). is_key keys name) c.new-names.ensures.empty; left = refl }

pub loop-setting-preserved : goal.loop-setting-preserved
loop-setting-preserved c =
    let missing : is_found c.loop-setting.names.keys c.as_slice.result ≡ false = not_true _ (sym c.if-not-branch.false ∙ c.in_ok-insert.ensures.added) in
    record {
      met = met_more c.args.settings.now c.loop-setting.setting-index c.setting-item.result c.loop-setting.names.keys c.insert.new.self.keys c.as_slice.result (omega arith)
          c.setting-item.is c.as_slice.ensures c.in_ok-insert.ensures.keys c.loop-setting.invariant.met;
      left = sym (twice_more c.args.settings.now c.loop-setting.setting-index c.setting-item.result c.loop-setting.names.keys c.as_slice.result false (omega arith)
          c.setting-item.is c.as_slice.ensures missing c.loop-setting.invariant.met) ∙ c.loop-setting.invariant.left;
    }
