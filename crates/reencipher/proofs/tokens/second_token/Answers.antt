use Rattle.std.proofs.Common.{◌∙◌, List, ℕ, ap, subst}
use Rattle.key_cells.specs.Lease.{bench_of}
use Rattle.record_bodies.specs.declared.rows.Second.{Second}
use Rattle.key_tokens.specs.declared.key_token.Age.TheVariants.{Current}
use Rattle.master_registers.specs.Masters.{Masters}
use Rattle.master_registers.proofs.LoadedLaws.{loaded_one}
use Rattle.multi_encipher.specs.declared.halves.Sealed.{Sealed}
use Rattle.verb_rules.specs.Keys.{keys_of, opened}
use Rattle.verb_rules.specs.Ready.{IsNewApart}
use Rattle.reencipher.proofs.TokenLaws.{opened_at, sealed_again, coming_is}
use Rattle.reencipher.proofs.tokens.second_token.Goals as goal

pub returns-in-None-clause-current : goal.returns-in-None-clause-current
returns-in-None-clause-current c m loaded = c.in-None.ensures.current m (bench_of c.args.lease.now) loaded

pub returns-clause-current : goal.returns-clause-current
returns-clause-current c m loaded = c.in-Some.ensures.current m (bench_of c.args.lease.now) loaded

pub returns-clause-second : goal.returns-clause-second
returns-clause-second c m loaded =
    let bench = bench_of c.args.lease.now in
    let vector : List ℕ = c.in-Some.key.token.vector in
    let clear = opened bench c.in-Some.key in
    let apart : IsNewApart (keys_of m) = subst (λ (n : Masters). IsNewApart (keys_of n)) (loaded_one m c.args.held.now bench loaded) c.requires.ready.apart in
    let is = coming_is m c.args.held.now bench c.args.coming loaded c.requires.ready.full c.requires.coming in
    let sealed = sealed_again c.args.lease.now c.open_key.new.lease vector clear.key c.seal-sealed.result c.open_key.ensures.stays c.open_key.ensures.key c.open_key.ensures.length c.seal-sealed.ensures.sealed in
    record {
      clear = clear;
      both = record {
        first = c.in-Some.ensures.key m bench loaded ∙ opened_at bench c.in-Some.key Current c.in-Some.ensures.age;
        coming = record { key = bench.coming; pattern = c.args.coming.bytes };
        is_coming = is;
        is_second = ap (λ (s : Sealed). second s) sealed;
        other = (apart (record { key = bench.coming; pattern = c.args.coming.bytes }) is).0;
        others = (apart (record { key = bench.coming; pattern = c.args.coming.bytes }) is).1;
      };
    }
  where
    second : Sealed → Second
    second s = record { pattern = c.args.coming; sealed = s }
