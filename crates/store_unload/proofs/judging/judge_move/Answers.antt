use Rattle.std.proofs.Common.{◌∙◌, List, [], Option, Err, refl, sym, ap}
use Rattle.std.specs.Option.{option_map}
use Rattle.cca_roles.specs.declared.roles.Role.{Role}
use Rattle.key_cells.specs.Lease.{bench_of}
use Rattle.master_registers.specs.Masters.{Masters}
use Rattle.cca_machine.specs.State.{State}
use Rattle.verb_rules.specs.Rules.{rule_number}
use Rattle.device_cells.proofs.Media.{keeps_still}
use Rattle.record_bodies.specs.Directory.{label_at}
use Rattle.record_bodies.specs.Entries.{row_directory}
use Rattle.verb_rules.specs.declared.rules.Rule.TheVariants.{LabelUnknown}
use Rattle.store_unload.proofs.JudgeLemmas.{found_at, kept_whole, label_as_read, label_judged, label_unknown, read_faults, read_left, role_as_read, role_told, undamaged, unfailed, unknown_as_read}
use Rattle.store_unload.proofs.judging.judge_move.Goals as goal
use Rattle.record_bodies.proofs.ListedLaws.{is_held}

-- a state with these registers and these roles
abbrev state_with : Masters → List (Option Role) → State
state_with registers roles = record { registers = registers; roles = roles; labels = [] }

pub returns-in-Some-clause-judged : goal.returns-in-Some-clause-judged
returns-in-Some-clause-judged g c = λ s roles loaded keeps.
    role_told s c.args.how.now (g.D.Disk.medium c.args.store.now) c.is_named.ensures (rule_number c.in-Some.rule)
    (sym (ap (option_map rule_number) c.in-Some.is) ∙ c.move_rule.ensures.rule s (bench_of c.args.lease.now) roles loaded)

pub returns-in-Some-find-clause-judged : goal.returns-in-Some-find-clause-judged
returns-in-Some-find-clause-judged g c = λ s roles loaded keeps.
    label_judged s c.args.how.now c.args.records.now (g.D.Disk.medium c.args.store.now) (bench_of c.args.lease.now) c.is_named.ensures keeps
    (sym (ap (option_map rule_number) c.in_default.is) ∙ c.move_rule.ensures.rule s (bench_of c.args.lease.now) roles loaded)
    c.in-Some-find.place c.judge_transport.result (found_at c.find.result _ _ c.find.ensures.found c.in-Some-find.is)
    (c.judge_transport.ensures.judged s.registers s.labels loaded keeps)

pub returns-clause-judged : goal.returns-clause-judged
returns-clause-judged g c = λ s roles loaded keeps.
    label_unknown s c.args.how.now c.args.records.now (g.D.Disk.medium c.args.store.now) (bench_of c.args.lease.now) c.is_named.ensures keeps
    (sym (ap (option_map rule_number) c.in_default.is) ∙ c.move_rule.ensures.rule s (bench_of c.args.lease.now) roles loaded)
    (found_at c.find.result _ _ c.find.ensures.found c.in-None.is)

-- ---- by what was read of the label's record

pub returns-in-Some-clause-own : goal.returns-in-Some-clause-own
returns-in-Some-clause-own g c = λ m loaded.
    role_as_read m c.args.roles.now c.args.how.now c.args.records.now (bench_of c.args.lease.now).body (rule_number c.in-Some.rule)
    (sym (ap (option_map rule_number) c.in-Some.is) ∙ c.move_rule.ensures.rule (state_with m c.args.roles.now) (bench_of c.args.lease.now) refl loaded)

pub returns-in-Some-find-clause-own : goal.returns-in-Some-find-clause-own
returns-in-Some-find-clause-own g c = λ m loaded.
    label_as_read m c.args.roles.now c.args.how.now c.args.records.now (bench_of c.judge_transport.new.lease).body
    (sym (ap (option_map rule_number) c.in_default.is) ∙ c.move_rule.ensures.rule (state_with m c.args.roles.now) (bench_of c.args.lease.now) refl loaded)
    (bench_of c.args.lease.now) c.in-Some-find.place (found_at c.find.result _ _ c.find.ensures.found c.in-Some-find.is)
    c.judge_transport.result (c.judge_transport.ensures.own m loaded)

pub returns-clause-own : goal.returns-clause-own
returns-clause-own g c = λ m loaded.
    unknown_as_read m c.args.roles.now c.args.how.now c.args.records.now (bench_of c.args.lease.now).body
    (sym (ap (option_map rule_number) c.in_default.is) ∙ c.move_rule.ensures.rule (state_with m c.args.roles.now) (bench_of c.args.lease.now) refl loaded)
    (found_at c.find.result _ _ c.find.ensures.found c.in-None.is)

-- ---- what is left of the store and of the lease

pub returns-in-Some-clause-double : goal.returns-in-Some-clause-double
returns-in-Some-clause-double g c = tt

pub returns-in-Some-clause-damaged : goal.returns-in-Some-clause-damaged
returns-in-Some-clause-damaged g c = λ s loaded keeps cell is. undamaged (Err c.in-Some.rule) (g.D.Disk.medium c.args.store.now) cell is

pub returns-in-Some-clause-faults : goal.returns-in-Some-clause-faults
returns-in-Some-clause-faults g c = tt

pub returns-in-Some-clause-store_left : goal.returns-in-Some-clause-store_left
returns-in-Some-clause-store_left g c = unfailed (Err c.in-Some.rule) (g.D.Disk.faults c.args.store.now)

pub returns-in-Some-clause-keeps : goal.returns-in-Some-clause-keeps
returns-in-Some-clause-keeps g c = keeps_still (g.D.Disk.medium c.args.store.now)

pub returns-in-Some-clause-rest : goal.returns-in-Some-clause-rest
returns-in-Some-clause-rest g c = kept_whole c.args.lease.now

pub judge_transport-requires-clause-held : goal.judge_transport-requires-clause-held
judge_transport-requires-clause-held g c =
    is_held (label_at (row_directory c.args.records.now) c.in-Some-find.place) c.args.how.now.transport c.in-Some-find.ensures.held

pub judge_transport-requires-clause-size : goal.judge_transport-requires-clause-size
judge_transport-requires-clause-size g c = c.requires.size

pub judge_transport-requires-clause-holds : goal.judge_transport-requires-clause-holds
judge_transport-requires-clause-holds g c = c.requires.holds

pub returns-in-Some-find-clause-double : goal.returns-in-Some-find-clause-double
returns-in-Some-find-clause-double g c = c.judge_transport.ensures.double

pub returns-in-Some-find-clause-damaged : goal.returns-in-Some-find-clause-damaged
returns-in-Some-find-clause-damaged g c = λ s loaded keeps. c.judge_transport.ensures.damaged s.registers s.labels loaded keeps

pub returns-in-Some-find-clause-faults : goal.returns-in-Some-find-clause-faults
returns-in-Some-find-clause-faults g c =
    read_faults c.judge_transport.result c.in-Some-find.place (g.D.Disk.faults c.args.store.now) (g.D.Disk.faults c.judge_transport.new.store)
    c.judge_transport.ensures.fails c.in-Some-find.ensures.within

pub returns-in-Some-find-clause-store_left : goal.returns-in-Some-find-clause-store_left
returns-in-Some-find-clause-store_left g c =
    read_left c.judge_transport.result c.in-Some-find.place (g.D.Disk.faults c.args.store.now) (g.D.Disk.faults c.judge_transport.new.store)
    c.judge_transport.ensures.fails

pub returns-in-Some-find-clause-keeps : goal.returns-in-Some-find-clause-keeps
returns-in-Some-find-clause-keeps g c = c.judge_transport.ensures.keeps

pub returns-in-Some-find-clause-rest : goal.returns-in-Some-find-clause-rest
returns-in-Some-find-clause-rest g c = c.judge_transport.ensures.rest

pub returns-clause-double : goal.returns-clause-double
returns-clause-double g c = tt

pub returns-clause-damaged : goal.returns-clause-damaged
returns-clause-damaged g c = λ s loaded keeps cell is. undamaged (Err LabelUnknown) (g.D.Disk.medium c.args.store.now) cell is

pub returns-clause-faults : goal.returns-clause-faults
returns-clause-faults g c = tt

pub returns-clause-store_left : goal.returns-clause-store_left
returns-clause-store_left g c = unfailed (Err LabelUnknown) (g.D.Disk.faults c.args.store.now)

pub returns-clause-keeps : goal.returns-clause-keeps
returns-clause-keeps g c = keeps_still (g.D.Disk.medium c.args.store.now)

pub returns-clause-rest : goal.returns-clause-rest
returns-clause-rest g c = kept_whole c.args.lease.now
