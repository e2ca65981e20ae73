use Rattle.std.proofs.Common.{◌≡◌, ◌∙◌, Ok, Err, Result, Some, sym, ap}
use Rattle.std.specs.Option.{option_copied}
use Rattle.cca_vectors.specs.declared.key_type.KeyType.{KeyType}
use Rattle.key_cells.specs.Bench.{Bench}
use Rattle.key_cells.specs.Lease.{bench_of}
use Rattle.master_registers.specs.Loaded.{Loaded}
use Rattle.master_registers.specs.Masters.{Masters}
use Rattle.key_transport.specs.Tokens.{as_current, key_with}
use Rattle.key_transport.specs.Generated.{HasKeyLength, generated_key, generated_tokens, generated_vector, transport_key}
use Rattle.key_transport.specs.declared.generating.GenerateFault.TheVariants.{Failed, Repeated}
use Rattle.key_transport.proofs.GeneratedLemmas.{first_has, key_is_generated, same_tokens, transport_stays}
use Rattle.key_transport.proofs.PlaceLemmas.{key_changes, key_changes_then, still_loaded}
use Rattle.key_transport.proofs.generating.generate.Goals as goal
use Rattle.key_cells.proofs.AnswerLemmas.{no_err}

-- the same fault, of another answer
the_same : {A B E : Type 0} (x y : E) → ◌≡◌ {A = Result A E} (Err x) (Err y) → ◌≡◌ {A = Result B E} (Err x) (Err y)
the_same x y is = cc is

pub returns-in-Err-clause-repeated : goal.returns-in-Err-clause-repeated
returns-in-Err-clause-repeated g c is = c.draw_key.ensures.repeated (c.in-Err.is ∙ the_same c.in-Err.fault Repeated is)

pub returns-in-Err-clause-later : goal.returns-in-Err-clause-later
returns-in-Err-clause-later g c = c.draw_key.ensures.later

pub returns-in-Err-clause-failed : goal.returns-in-Err-clause-failed
returns-in-Err-clause-failed g c is = c.draw_key.ensures.failed (c.in-Err.is ∙ the_same c.in-Err.fault Failed is)

pub returns-in-Err-clause-quiet : goal.returns-in-Err-clause-quiet
returns-in-Err-clause-quiet g c other = c.draw_key.ensures.quiet (λ is. other (the_same c.in-Err.fault Failed (sym c.in-Err.is ∙ is)))

pub returns-in-Err-clause-stays : goal.returns-in-Err-clause-stays
returns-in-Err-clause-stays g c = key_changes c.args.lease.now c.draw_key.new.lease c.draw_key.ensures.stays

pub returns-in-Ok-clause-repeated : goal.returns-in-Ok-clause-repeated
returns-in-Ok-clause-repeated g c is = no_err is

pub returns-in-Ok-clause-later : goal.returns-in-Ok-clause-later
returns-in-Ok-clause-later g c = c.draw_key.ensures.later

pub returns-in-Ok-clause-failed : goal.returns-in-Ok-clause-failed
returns-in-Ok-clause-failed g c is = no_err is

pub returns-in-Ok-clause-quiet : goal.returns-in-Ok-clause-quiet
returns-in-Ok-clause-quiet g c other = c.draw_key.ensures.quiet (λ is. no_err (sym c.in-Ok.is ∙ is))

pub returns-in-Ok-clause-stays : goal.returns-in-Ok-clause-stays
returns-in-Ok-clause-stays g c =
    key_changes_then c.args.lease.now c.draw_key.new.lease c.write_tokens.new.lease c.draw_key.ensures.stays c.write_tokens.ensures.stays

pub returns-in-Ok-clause-generated : goal.returns-in-Ok-clause-generated
returns-in-Ok-clause-generated g c =
    let d = c.in-Ok.ensures.drawn in
    let old : Bench = bench_of c.args.lease.now in
    let new : Bench = bench_of c.draw_key.new.lease in
    let key_length = c.args.length in
    let one = option_copied c.args.one in
    let two = option_copied c.args.two in
    let put : new ≡ record old { key = new.key } = ap bench_of c.draw_key.ensures.stays in
    let loaded : (m : Masters) → Loaded m c.args.held.now old → Loaded m c.args.held.now new =
    (λ m. still_loaded m c.args.held.now old new (ap (λ b. b.coming) put) (ap (λ b. b.current) put) (ap (λ b. b.former) put)) in
    let key : (kind : KeyType) → HasKeyLength kind key_length → key_with new (generated_vector kind key_length) ≡ generated_key kind key_length d.draw.drawn =
    (λ kind. key_is_generated kind key_length new d.draw.drawn d.key) in
    let first : transport_key new one ≡ transport_key old one = ap (λ b. transport_key b one) put ∙ transport_stays old new.key one in
    let second : transport_key new two ≡ transport_key old two = ap (λ b. transport_key b two) put ∙ transport_stays old new.key two in
    let first_key = key_with new (generated_vector c.args.first key_length) in
    let second_key = key_with new (generated_vector c.args.second key_length) in
    record {
      draw = d.draw;
      tokens = λ m has.
          c.write_tokens.ensures.tokens m (loaded m has)
          ∙ (ap (λ t. generated_tokens m c.args.form t (transport_key new two) first_key second_key) first
          ∙ (ap (λ t. generated_tokens m c.args.form (transport_key old one) t first_key second_key) second
          ∙ same_tokens m c.args.form c.args.first c.args.second key_length (transport_key old one) (transport_key old two) first_key second_key
          (generated_key c.args.first key_length d.draw.drawn) (generated_key c.args.second key_length d.draw.drawn)
          c.requires.lengths (key c.args.first) (key c.args.second)));
      operational = λ m has op.
          c.write_tokens.ensures.operational m (loaded m has) op
          ∙ ap (λ k. Some (as_current k)) (key c.args.first (first_has c.args.form c.args.first c.args.second key_length c.requires.lengths));
    }
