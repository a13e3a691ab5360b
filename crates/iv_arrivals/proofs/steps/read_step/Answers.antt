use Rattle.std.proofs.Common.{◌≡◌, ◌∙◌, List, Some, ap, drop, false, option_map, sym, true}
use Rattle.std.specs.List.{list_all}
use Rattle.iv_records.specs.Journal.{Entry}
use Rattle.iv_records.specs.Parsed.{record_in}
use Rattle.iv_journal.specs.Journal.{Line}
use Rattle.iv_arrivals.specs.Reads.{is_answer}
use Rattle.iv_arrivals.proofs.StepLines.{no_record, no_texts, one_record, step_well}
use Rattle.iv_arrivals.proofs.steps.read_step.Goals as goal

pub returns-then-not-are_texts-clause-read : goal.returns-then-not-are_texts-clause-read
returns-then-not-are_texts-clause-read c = no_texts c.args.log c.args.from c.args.lines.now (sym c.are_texts.ensures ∙ c.if-not-are_texts.true)

pub returns-in-None-clause-read : goal.returns-in-None-clause-read
returns-in-None-clause-read c =
    let ls = c.args.lines.now in
    no_record c.args.log c.args.from ls (sym c.are_texts.ensures ∙ c.if-not-are_texts.false)
    (sym (sym (ap (option_map {U = Entry × List Line} (λ p. (p.0, drop p.1 ls))) c.in-None.is) ∙ c.in_ok-read_record.ensures.read))

pub returns-then-not-are_all-clause-read : goal.returns-then-not-are_all-clause-read
returns-then-not-are_all-clause-read c =
    let ls = c.args.lines.now in
    let rest = drop c.in-Some.count c.args.lines.now in
    let read : record_in ls ≡ Some (c.in-Some.entry, rest) =
    sym (sym (ap (option_map {U = Entry × List Line} (λ p. (p.0, drop p.1 ls))) c.in-Some.is) ∙ c.in_ok-read_record.ensures.read) in
    let texts = sym c.are_texts.ensures ∙ c.if-not-are_texts.false in
    sym (one_record c.args.log c.args.from ls rest c.in-Some.entry false _ texts read (sym c.are_all.ensures ∙ c.if-not-are_all.true) (λ i. list_all is_answer c.in-Some.entry.names))

pub returns-then-not-branch-clause-read : goal.returns-then-not-branch-clause-read
returns-then-not-branch-clause-read c =
    let ls = c.args.lines.now in
    let rest = drop c.in-Some.count c.args.lines.now in
    let read : record_in ls ≡ Some (c.in-Some.entry, rest) =
    sym (sym (ap (option_map {U = Entry × List Line} (λ p. (p.0, drop p.1 ls))) c.in-Some.is) ∙ c.in_ok-read_record.ensures.read) in
    let texts = sym c.are_texts.ensures ∙ c.if-not-are_texts.false in
    let told = ap (list_all is_answer) (sym (c.deref.ensures.value ∙ ap (λ (e : Entry). e.names) c.entry.view_is)) ∙ sym c.in_ok-are_answers-in-Some.ensures in
    sym (one_record c.args.log c.args.from ls rest c.in-Some.entry true false texts read (sym c.are_all.ensures ∙ c.if-not-are_all.false) (told ∙ c.if-not-branch.true))

pub returns-else-not-branch-clause-read : goal.returns-else-not-branch-clause-read
returns-else-not-branch-clause-read c =
    let ls = c.args.lines.now in
    let rest = drop c.in-Some.count c.args.lines.now in
    let read : record_in ls ≡ Some (c.in-Some.entry, rest) =
    sym (sym (ap (option_map {U = Entry × List Line} (λ p. (p.0, drop p.1 ls))) c.in-Some.is) ∙ c.in_ok-read_record.ensures.read) in
    let texts = sym c.are_texts.ensures ∙ c.if-not-are_texts.false in
    let told = ap (list_all is_answer) (sym (c.deref.ensures.value ∙ ap (λ (e : Entry). e.names) c.entry.view_is)) ∙ sym c.in_ok-are_answers-in-Some.ensures in
    c.step_of.ensures
    ∙ sym (one_record c.args.log c.args.from ls rest c.in-Some.entry true true texts read (sym c.are_all.ensures ∙ c.if-not-are_all.false) (told ∙ c.if-not-branch.false))

pub returns-else-not-branch-clause-well : goal.returns-else-not-branch-clause-well
returns-else-not-branch-clause-well c =
    let ls = c.args.lines.now in
    let rest = drop c.in-Some.count c.args.lines.now in
    let read : record_in ls ≡ Some (c.in-Some.entry, rest) =
    sym (sym (ap (option_map {U = Entry × List Line} (λ p. (p.0, drop p.1 ls))) c.in-Some.is) ∙ c.in_ok-read_record.ensures.read) in
    let texts = sym c.are_texts.ensures ∙ c.if-not-are_texts.false in
    let told = ap (list_all is_answer) (sym (c.deref.ensures.value ∙ ap (λ (e : Entry). e.names) c.entry.view_is)) ∙ sym c.in_ok-are_answers-in-Some.ensures in
    step_well c.records_are_read_back.ensures c.args.log c.args.from ls rest c.in-Some.entry _ texts read (sym c.are_all.ensures ∙ c.if-not-are_all.false)
    (told ∙ c.if-not-branch.false) c.step_of.ensures
