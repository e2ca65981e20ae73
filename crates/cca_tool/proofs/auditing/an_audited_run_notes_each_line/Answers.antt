-- Line after line, of the coprocessor.
use Rattle.std.proofs.Common.{◌++◌, ◌∙◌, ℕ, List, [], ap, subst, sym}
use Rattle.std.proofs.lemmas.List.{append-nil}
use Rattle.audited_service.specs.LineEntries.{entry_of}
use Rattle.audited_service.specs.Noting.{Noted}
use Rattle.audited_service.proofs.NotingLemmas.{notes_lines}
use Rattle.line_service.specs.Machine.{Outcome}
use Rattle.cca_machine.specs.State.{State}
use Rattle.cca_tool.specs.Auditing.{HaveNoted}
use Rattle.cca_machine.specs.Coprocessor.{cca}
use Rattle.cca_tool.proofs.auditing.an_audited_run_notes_each_line.Goals as goal

pub returns-clause-session : goal.returns-clause-session
returns-clause-session c = λ s es random lines. notes_lines cca entry_of lines s es random

pub returns-clause-led : goal.returns-clause-led
returns-clause-led c = λ s es lines drawn t sent runs.
    let notes = notes_lines cca entry_of lines s es (drawn ++ []) in
    subst (λ (random : List ℕ). HaveNoted s es lines random t sent) (append-nil drawn) (record {
      entries = sym (ap (λ (o : Outcome (Noted State)). o.state.entries) (runs [])) ∙ notes.entries;
      state = sym (ap (λ (o : Outcome (Noted State)). o.state.state) (runs [])) ∙ notes.state;
      replies = sym (ap (λ (o : Outcome (Noted State)). o.reply) (runs [])) ∙ notes.reply;
    })
