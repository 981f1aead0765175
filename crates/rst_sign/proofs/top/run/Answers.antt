-- Each promise of the top call.
use Rattle.std.specs.Prelude.{map, string_bytes}
use Rattle.rst_sign.proofs.Promises.{if_told, other_files, due_told, sure_told, signed_promise, refuted_promise, unknown_promise, verdict_promise, known_exactly, always_signed, always_decided, shown_promise, always_shown, usage_promise, usage_only, usage_text, read_fault_has, rejected_has, unread_promise, refused_exactly, kept_verdict, kept_reject, kept_unread, no_certificate, only_check, write_fault, no_memory_keeps, memory_is}
use Rattle.rst_sign.proofs.top.run.Goals as goal

pub returns-clause-due : goal.returns-clause-due
returns-clause-due g c =
    λ memory. if_told (g.K.Desk.files c.args.desk.now) _ (λ files told. due_told (map string_bytes c.args.words.now.items) _ _ c.act.result c.act.ensures files told memory)

pub returns-clause-shown : goal.returns-clause-shown
returns-clause-shown g c =
    λ status. if_told (g.K.Desk.files c.args.desk.now) _ (λ files told. shown_promise (map string_bytes c.args.words.now.items) _ _ c.act.result c.act.ensures files told status)

pub returns-clause-usage : goal.returns-clause-usage
returns-clause-usage g c =
    usage_promise (map string_bytes c.args.words.now.items) _ _ c.act.result c.act.ensures

pub returns-clause-usage_only : goal.returns-clause-usage_only
returns-clause-usage_only g c =
    usage_only (map string_bytes c.args.words.now.items) _ _ c.act.result c.act.ensures

pub returns-clause-usage_text : goal.returns-clause-usage_text
returns-clause-usage_text g c =
    usage_text (map string_bytes c.args.words.now.items) _ _ c.act.result c.act.ensures

pub returns-clause-read_fault : goal.returns-clause-read_fault
returns-clause-read_fault g c =
    read_fault_has (map string_bytes c.args.words.now.items) _ _ c.act.result c.act.ensures

pub returns-clause-unread : goal.returns-clause-unread
returns-clause-unread g c =
    c.act.ensures.unread

pub returns-clause-earlier_held : goal.returns-clause-earlier_held
returns-clause-earlier_held g c =
    if_told c.act.result.unread _ (λ place has. if_told (g.K.Desk.files c.args.desk.now) _ (λ files told. unread_promise (map string_bytes c.args.words.now.items) _ _ c.act.result c.act.ensures files told place has))

pub returns-clause-rejected : goal.returns-clause-rejected
returns-clause-rejected g c =
    rejected_has (map string_bytes c.args.words.now.items) _ _ c.act.result c.act.ensures

pub returns-clause-refused : goal.returns-clause-refused
returns-clause-refused g c =
    λ memory. if_told (g.K.Desk.files c.args.desk.now) _ (λ files told. refused_exactly (map string_bytes c.args.words.now.items) _ _ c.act.result c.act.ensures c.one_due.ensures.one files told memory)

pub returns-clause-kept_verdict : goal.returns-clause-kept_verdict
returns-clause-kept_verdict g c =
    kept_verdict (map string_bytes c.args.words.now.items) _ _ c.act.result c.act.ensures

pub returns-clause-kept_reject : goal.returns-clause-kept_reject
returns-clause-kept_reject g c =
    kept_reject (map string_bytes c.args.words.now.items) _ _ c.act.result c.act.ensures

pub returns-clause-kept_unread : goal.returns-clause-kept_unread
returns-clause-kept_unread g c =
    kept_unread (map string_bytes c.args.words.now.items) _ _ c.act.result c.act.ensures

pub returns-clause-nothing_put : goal.returns-clause-nothing_put
returns-clause-nothing_put g c =
    λ status. (c.act.ensures.nothing status).1.taken

pub returns-clause-other_files : goal.returns-clause-other_files
returns-clause-other_files g c =
    other_files (map string_bytes c.args.words.now.items) _ _ c.act.result c.act.ensures

pub returns-clause-no_certificate : goal.returns-clause-no_certificate
returns-clause-no_certificate g c =
    if_told (g.K.Desk.files c.args.desk.now) _ (λ files told. no_certificate (map string_bytes c.args.words.now.items) _ _ c.act.result c.act.ensures files told)

pub returns-clause-only_check_saves : goal.returns-clause-only_check_saves
returns-clause-only_check_saves g c =
    if_told (g.K.Desk.files c.args.desk.now) _ (λ files told. only_check (map string_bytes c.args.words.now.items) _ _ c.act.result c.act.ensures files told)

pub returns-clause-write_fault : goal.returns-clause-write_fault
returns-clause-write_fault g c =
    write_fault (map string_bytes c.args.words.now.items) _ _ c.act.result c.act.ensures

pub returns-clause-no_memory : goal.returns-clause-no_memory
returns-clause-no_memory g c =
    no_memory_keeps (map string_bytes c.args.words.now.items) _ _ c.act.result c.act.ensures

pub returns-clause-memory_command : goal.returns-clause-memory_command
returns-clause-memory_command g c =
    memory_is (map string_bytes c.args.words.now.items) _ _ c.act.result c.act.ensures

pub returns-clause-nothing_saved : goal.returns-clause-nothing_saved
returns-clause-nothing_saved g c =
    λ status. (c.act.ensures.nothing status).1.files

pub returns-clause-sure_loads : goal.returns-clause-sure_loads
returns-clause-sure_loads g c =
    λ sure memory. if_told (g.K.Desk.files c.args.desk.now) _ (λ files told. sure_told (map string_bytes c.args.words.now.items) _ _ c.act.result c.act.ensures files told sure memory)

pub returns-clause-signed : goal.returns-clause-signed
returns-clause-signed g c =
    λ status. if_told (g.K.Desk.files c.args.desk.now) _ (λ files told. signed_promise (map string_bytes c.args.words.now.items) _ _ c.act.result c.act.ensures c.verdicts_hold.ensures.signed files told status)

pub returns-clause-refuted : goal.returns-clause-refuted
returns-clause-refuted g c =
    λ status. if_told (g.K.Desk.files c.args.desk.now) _ (λ files told. refuted_promise (map string_bytes c.args.words.now.items) _ _ c.act.result c.act.ensures c.verdicts_hold.ensures.refuted files told status)

pub returns-clause-unknown : goal.returns-clause-unknown
returns-clause-unknown g c =
    λ status. if_told (g.K.Desk.files c.args.desk.now) _ (λ files told. unknown_promise (map string_bytes c.args.words.now.items) _ _ c.act.result c.act.ensures files told status)

pub returns-clause-verdict : goal.returns-clause-verdict
returns-clause-verdict g c =
    λ memory. if_told (g.K.Desk.files c.args.desk.now) _ (λ files told. verdict_promise (map string_bytes c.args.words.now.items) _ _ c.act.result c.act.ensures files told memory)

pub returns-clause-known : goal.returns-clause-known
returns-clause-known g c =
    λ memory. if_told (g.K.Desk.files c.args.desk.now) _ (λ files told. known_exactly (map string_bytes c.args.words.now.items) _ _ c.act.result c.act.ensures c.one_due.ensures.asked files told memory)

pub returns-clause-always_signed : goal.returns-clause-always_signed
returns-clause-always_signed g c =
    if_told (g.K.Desk.files c.args.desk.now) _ (λ files told. always_signed (map string_bytes c.args.words.now.items) _ _ c.act.result c.act.ensures c.one_due.ensures.asked files told)

pub returns-clause-always_decided : goal.returns-clause-always_decided
returns-clause-always_decided g c =
    if_told (g.K.Desk.files c.args.desk.now) _ (λ files told. always_decided (map string_bytes c.args.words.now.items) _ _ c.act.result c.act.ensures c.one_due.ensures.asked files told)

pub returns-clause-always_shown : goal.returns-clause-always_shown
returns-clause-always_shown g c =
    if_told (g.K.Desk.files c.args.desk.now) _ (λ files told. always_shown (map string_bytes c.args.words.now.items) _ _ c.act.result c.act.ensures c.one_due.ensures.asked files told)
