use Rattle.std.proofs.Common.{◌∙◌, ◌++◌, List, map, ap, sym, subst, arith}
use Rattle.rst_value.specs.declared.tern.Tern.{Tern}
use Rattle.rst_pairinv.specs.Turns.{IsRefining, conflict_of}
use Rattle.rst_pairinv.proofs.Blocked.{is_within}
use Rattle.rst_pairinv.proofs.Noting.{all_noted}
use Rattle.rst_pairinv.proofs.Asked.{solved, refuted, spent, same_solution}
use Rattle.rst_pairinv.proofs.turn.turn.Goals as goal
use Rattle.rst_pairinv.proofs.turn.turn.Goals.{then-len-left+in_ok-block_case-in-Model, else-len-left}

pub ask-requires : goal.ask-requires
ask-requires c = is_within c.args.pair.now c.args.so_far.now c.requires.small_left c.requires.small_right c.requires.at (omega arith)

pub block_case-requires-clause-at : goal.block_case-requires-clause-at
block_case-requires-clause-at c =
    let old = c.args.so_far.now in
    let found = solved c.args.pair.now old.front _ c.in_ok-answer.answer c.in-Model.bits c.in-Model.paths c.in-Model.is c.in_ok-answer.ensures in
    let more = c.in_ok-note_paths-in-Model.ensures.journal ∙ ap (λ (ps : List (List Tern)). old.journal ++ map conflict_of ps) c.as_slice.ensures.value in
    all_noted c.args.pair.now old c.note_paths.new.so_far c.in-Model.paths.items c.requires.at c.requires.fresh found.1
    c.in_ok-note_paths-in-Model.ensures.front more

pub block_case-requires-clause-solution : goal.block_case-requires-clause-solution
block_case-requires-clause-solution c =
    let old = c.args.so_far.now in
    let found = solved c.args.pair.now old.front _ c.in_ok-answer.answer c.in-Model.bits c.in-Model.paths c.in-Model.is c.in_ok-answer.ensures in
    same_solution c.args.pair.now old.front c.note_paths.new.so_far.front c.in-Model.bits c.as_slice-then-len-left.result.now
    c.in_ok-note_paths-in-Model.ensures.front c.as_slice-then-len-left.ensures found.0

pub returns-after-len-left-clause-at : goal.returns-after-len-left-clause-at
returns-after-len-left-clause-at c =
    let old = c.args.so_far.now in
    let found = solved c.args.pair.now old.front _ c.in_ok-answer.answer c.in-Model.bits c.in-Model.paths c.in-Model.is c.in_ok-answer.ensures in
    let more = c.in_ok-note_paths-in-Model.ensures.journal ∙ ap (λ (ps : List (List Tern)). old.journal ++ map conflict_of ps) c.as_slice.ensures.value in
    let noted : IsRefining c.args.pair.now c.note_paths.new.so_far =
    all_noted c.args.pair.now old c.note_paths.new.so_far c.in-Model.paths.items c.requires.at c.requires.fresh found.1
    c.in_ok-note_paths-in-Model.ensures.front more in
    elim c.if-len-left.branch [
      | then-len-left+in_ok-block_case-in-Model w ↦ subst (IsRefining c.args.pair.now) (sym w.so_far-is) w.in_ok-block_case-in-Model.ensures.at
      | else-len-left w ↦ subst (IsRefining c.args.pair.now) (sym w.so_far-is) noted
    ]

pub returns-in_ok-note_paths-in-Refuted-clause-at : goal.returns-in_ok-note_paths-in-Refuted-clause-at
returns-in_ok-note_paths-in-Refuted-clause-at c =
    let old = c.args.so_far.now in
    let found = refuted c.args.pair.now old.front _ c.in_ok-answer.answer c.in-Refuted.log c.in-Refuted.paths c.in-Refuted.is c.in_ok-answer.ensures in
    let more = c.in_ok-note_paths-in-Refuted.ensures.journal
    ∙ ap (λ (ps : List (List Tern)). old.journal ++ map conflict_of ps) c.as_slice-in-Refuted.ensures.value in
    all_noted c.args.pair.now old c.note_paths-in-Refuted.new.so_far c.in-Refuted.paths.items c.requires.at c.requires.fresh found
    c.in_ok-note_paths-in-Refuted.ensures.front more

pub returns-in_ok-note_paths-in-Spent-clause-at : goal.returns-in_ok-note_paths-in-Spent-clause-at
returns-in_ok-note_paths-in-Spent-clause-at c =
    let old = c.args.so_far.now in
    let found = spent c.args.pair.now old.front _ c.in_ok-answer.answer c.in-Spent.paths c.in-Spent.is c.in_ok-answer.ensures in
    let more = c.in_ok-note_paths-in-Spent.ensures.journal
    ∙ ap (λ (ps : List (List Tern)). old.journal ++ map conflict_of ps) c.as_slice-in-Spent.ensures.value in
    all_noted c.args.pair.now old c.note_paths-in-Spent.new.so_far c.in-Spent.paths.items c.requires.at c.requires.fresh found
    c.in_ok-note_paths-in-Spent.ensures.front more
