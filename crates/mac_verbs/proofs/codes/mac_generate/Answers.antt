use Rattle.std.proofs.Common.{◌≡◌, ◌∙◌, None, length, ap, sym, subst}
use Rattle.cca_vectors.specs.Checks.{first_failing}
use Rattle.cca_vectors.specs.Vectors.{length_of}
use Rattle.des_blocks.specs.Modes.{mac_x99, mac_x919}
use Rattle.key_cells.specs.Bench.{text_of}
use Rattle.key_cells.specs.Lease.{bench_of}
use Rattle.verb_rules.specs.declared.lengths.MacRule.TheVariants.{X99, X919}
use Rattle.verb_rules.specs.Keys.{opened}
use Rattle.verb_rules.specs.LengthChecks.{mac_checks}
use Rattle.mac_verbs.specs.Codes.{code_of}
use Rattle.mac_verbs.proofs.CodeLemmas.{left_schedule, mac_length, right_schedule, single_schedule}
use Rattle.mac_verbs.proofs.codes.mac_generate.Goals as goal

pub returns-in-X99-clause-code : goal.returns-in-X99-clause-code
returns-in-X99-clause-code c =
    let clear = opened (bench_of c.args.lease.now) c.args.key.now in
    let vector = c.args.key.now.token.vector in
    let schedules = (bench_of c.schedule_key.new.lease).schedules in
    let text = text_of (bench_of c.args.lease.now).text in
    let passes : first_failing (mac_checks X99 (length_of vector)) ≡ None = subst (λ r. first_failing (mac_checks r (length_of vector)) ≡ None) c.in-X99.is c.requires.key in
    let long : length clear.key ≡ 8 = c.schedule_key.ensures.length.size ∙ mac_length X99 (length_of vector) passes in
    let read : c.text.result.now ≡ text = c.text.ensures.value ∙ ap (λ l. text_of (bench_of l).text) c.schedule_key.ensures.stays in
    c.cbc_mac.ensures.key clear.key (single_schedule c.schedules.result.now schedules clear.key long c.schedules.ensures c.schedule_key.ensures.schedules)
    ∙ (ap (mac_x99 clear.key) read ∙ sym (ap (λ r. code_of r clear text) c.in-X99.is))

pub returns-in-X919-clause-code : goal.returns-in-X919-clause-code
returns-in-X919-clause-code c =
    let clear = opened (bench_of c.args.lease.now) c.args.key.now in
    let vector = c.args.key.now.token.vector in
    let schedules = (bench_of c.schedule_key.new.lease).schedules in
    let text = text_of (bench_of c.args.lease.now).text in
    let passes : first_failing (mac_checks X919 (length_of vector)) ≡ None = subst (λ r. first_failing (mac_checks r (length_of vector)) ≡ None) c.in-X919.is c.requires.key in
    let long : length clear.key ≡ 16 = c.schedule_key.ensures.length.size ∙ mac_length X919 (length_of vector) passes in
    let read : c.text-in-X919.result.now ≡ text = c.text-in-X919.ensures.value ∙ ap (λ l. text_of (bench_of l).text) c.schedule_key.ensures.stays in
    c.x919_mac.ensures.key clear.key (left_schedule c.schedules.result.now schedules clear.key c.schedules.ensures c.schedule_key.ensures.schedules)
    (right_schedule c.schedules.result.now schedules clear.key long c.schedules.ensures c.schedule_key.ensures.schedules)
    ∙ (ap (mac_x919 clear.key) read ∙ sym (ap (λ r. code_of r clear text) c.in-X919.is))
