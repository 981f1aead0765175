use Rattle.std.proofs.Common.{◌≡◌, ◌+◌, ◌-◌, List, map, length, refl, sym, ap, ◌∙◌, arith}
use Rattle.std.proofs.lemmas.Result.{err_from_is_err_and}
use Rattle.rst_tree.specs.declared.module.Item.{Item}
use Rattle.rst_tree.specs.Modules.{plain_item}
use Rattle.rst_grammar.specs.declared.symbol.Symbol.{Symbol}
use Rattle.rst_grammar.specs.declared.symbol.Terminal.TheVariants as terminal
use Rattle.rst_grammar.specs.ReadParts.{until}
use Rattle.rst_grammar.specs.ReadItems.{item_in}
use Rattle.rst_grammar.specs.ReadModule.{items_in}
use Rattle.rst_parse.proofs.Turns.{with_front, pushed, until_begins, until_goes, until_ends, until_fails, until_out}
use Rattle.rst_parse.proofs.module.items.Goals as goal

all_items : (ts : List Symbol) → until terminal.Endmodule (item_in 200) (length ts) ts ≡ items_in 200 ts
unfolding items_in
all_items ts = refl

pub loop-init : goal.loop-init
loop-init c =
    let ts = c.args.symbols.now in
    let n = length ts in
    let z : n - 0 ≡ n = omega arith in
    ap (λ k. with_front (map plain_item c.none-items.result.0.items) (until terminal.Endmodule (item_in 200) k c.none-items.result.1.now)) z
    ∙ ap (λ us. with_front (map plain_item c.none-items.result.0.items) (until terminal.Endmodule (item_in 200) n us)) c.none-items.ensures.behind
    ∙ ap (λ (xs : List Item). with_front (map plain_item xs) (until terminal.Endmodule (item_in 200) n ts)) c.none-items.ensures.items
    ∙ until_begins terminal.Endmodule (item_in 200) ts
    ∙ all_items ts

pub returns-in-Some : goal.returns-in-Some
returns-in-Some c =
    let n = length c.args.symbols.now in
    until_ends terminal.Endmodule (item_in 200) (n - c.loop.counter) (n - (c.loop.counter + 1)) (map plain_item c.loop.items.items) c.loop.rest.now c.in-Some.after.now _ (omega arith) (sym c.in-Some.ensures) c.loop.invariant

pub returns-in_err-next : goal.returns-in_err-next
returns-in_err-next c =
    let n = length c.args.symbols.now in
    let p = err_from_is_err_and c.from_residual.result c.from_residual.ensures.1 in
    rw (p.1, p.2) (until_fails c.in_err-next.field-0.0 terminal.Endmodule (item_in 200) (n - c.loop.counter) (n - (c.loop.counter + 1)) (map plain_item c.loop.items.items) c.loop.rest.now (items_in 200 c.args.symbols.now) (omega arith) (sym c.in_default.ensures) c.in_err-next.ensures c.loop.invariant)

pub loop-preserved : goal.loop-preserved
loop-preserved c =
    let n = length c.args.symbols.now in
    let j = n - (c.loop.counter + 1) in
    let longer = pushed plain_item c.loop.items.items c.push.new.self.items c.in_ok-next.next c.in_ok-push.ensures.items in
    until_goes terminal.Endmodule (item_in 200) (n - c.loop.counter) j (map plain_item c.loop.items.items) (map plain_item c.push.new.self.items) (plain_item c.in_ok-next.next) c.loop.rest.now c.in_ok-next.after.now (items_in 200 c.args.symbols.now) (omega arith) longer (sym c.in_default.ensures) c.in_ok-next.ensures c.loop.invariant

pub returns : goal.returns
returns c = until_out terminal.Endmodule (item_in 200) (length c.args.symbols.now - c.loop.counter) (map plain_item c.loop.items.items) c.loop.rest.now (items_in 200 c.args.symbols.now) (omega arith) c.loop.invariant
