use Rattle.std.proofs.Common.{◌≡◌, ◌∙◌, sym, ap, ℕ, ◌<◌, List, [], ◌∷◌, ◌++◌, length, get_or, arith}
use Rattle.std.proofs.lemmas.List.{map-set, length-map, get_or-map, get_or-set_same, get_or-set_other}
use Rattle.std.specs.declared.vec.Vec.{Vec}
use Rattle.std.specs.declared.alloc.Global.{Global}
use Rattle.rst_flow.specs.declared.drives.Drive.{Drive}
use Rattle.rst_flow.specs.Tables.{Table, table_of, row}
use Rattle.rst_flow.proofs.drives.add_drive.Goals as goal

row_of : (xs : List (Vec Drive Global)) (v : ℕ) (w : Vec Drive Global) → v < length xs → w ≡ get_or xs v w → w.items ≡ row (table_of xs) v
row_of xs v w below is = ap (λ (x : Vec Drive Global). x.items) is ∙ sym (get_or-map (λ (x : Vec Drive Global). x.items) xs v w [] below)

pub returns-in_ok-push-clause-added : goal.returns-in_ok-push-clause-added
returns-in_ok-push-clause-added c below =
    let xs = c.args.drives.now.items in
    let s = c.args.signal in
    let items : c.push.new.self.items ≡ row (table_of xs) s ++ c.args.drive ∷ [] =
    c.in_ok-push.ensures.items ∙ ap (λ (z : List Drive). z ++ c.args.drive ∷ []) (row_of xs s c.index_mut-list.result.now below c.index_mut-list.ensures.value) in
    ap (λ (t : Table). row t s) (map-set (λ (x : Vec Drive Global). x.items) xs s c.push.new.self)
    ∙ get_or-set_same (table_of xs) s c.push.new.self.items [] (omega (arith, length-map xs (λ (x : Vec Drive Global). x.items))) ∙ items

pub returns-in_ok-push-clause-others : goal.returns-in_ok-push-clause-others
returns-in_ok-push-clause-others c i apart =
    let xs = c.args.drives.now.items in
    let s = c.args.signal in
    ap (λ (t : Table). row t i) (map-set (λ (x : Vec Drive Global). x.items) xs s c.push.new.self) ∙ get_or-set_other (table_of xs) s i c.push.new.self.items [] apart
