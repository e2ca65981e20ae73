use Rattle.std.proofs.Common.{◌≡◌, ℕ, List, false, Option, None, Result, Ok, Err, refl, sym, ap, subst, ◌∙◌}
use Rattle.std.specs.Result.{is_err, result_ok}
use Rattle.std.specs.Option.{IsNone}
use Rattle.std.specs.Prelude.{IfSome}
use Rattle.device_cells.specs.Cells.{body}
use Rattle.device_cells.proofs.Media.{told_from, told_at}
use Rattle.key_cells.specs.Bench.{Bench}
use Rattle.key_cells.specs.Lease.{bench_of}
use Rattle.master_registers.specs.Changes.{RestsOnBody}
use Rattle.master_registers.specs.Loaded.{masters_in}
use Rattle.master_registers.specs.Masters.{Masters}
use Rattle.master_registers.specs.RegisterBody.{ReadsMasters, IsDamaged}
use Rattle.master_registers.specs.declared.faults.LoadFault.{LoadFault}
use Rattle.master_registers.specs.declared.registers.Registers.{Registers}
use Rattle.master_registers.proofs.loading.load.Goals as goal
use Rattle.key_cells.proofs.AnswerLemmas.{unless_err}

pub returns-clause-damaged : goal.returns-clause-damaged
returns-clause-damaged g c failed =
    let none : c.read_registers.result ≡ None = c.ok_or.ensures.ok_part ∙ ap result_ok failed in
    let damaged : (m : Masters) → ReadsMasters c.read_cell.new.out m → ⊥ = c.read_registers.ensures.damaged (subst IsNone (sym none) refl) in
    let told = unless_err c.read_cell.result (sym c.is_err.ensures.value ∙ c.if-is_err.false) c.read_cell.ensures.bytes in
    told_from (g.M.Disk.medium c.args.module.now).content IsDamaged
    (λ image is. let read : c.read_cell.new.out ≡ body image 0 = told_at (g.M.Disk.medium c.args.module.now).content (λ i. c.read_cell.new.out ≡ body i c.new.result) image is told ∙ ap (body image) c.new.ensures in
    λ m reads. damaged m (subst (λ bytes. ReadsMasters bytes m) (sym read) reads))

rests : (found : Option Registers) (result : Result Registers LoadFault) (bench : Bench) (bytes : List ℕ) → found ≡ result_ok result → bench.body ≡ bytes
    → IfSome found (λ held. ReadsMasters bytes (masters_in held bench)) → (IsNone found → (m : Masters) → ReadsMasters bytes m → ⊥) → RestsOnBody bench result
rests found (Ok held) bench bytes is same reads none = record {
  reads = subst (λ (b : List ℕ). ReadsMasters b (masters_in held bench)) (sym same) (subst (λ (o : Option Registers). IfSome o (λ h. ReadsMasters bytes (masters_in h bench))) is reads);
  misread = λ wrong. cc;
}
rests found (Err fault) bench bytes is same reads none = record {
  reads = tt;
  misread = λ failed m reads_as. none (subst IsNone (sym is) refl) m (subst (λ (b : List ℕ). ReadsMasters b m) same reads_as);
}

pub returns-clause-own : goal.returns-clause-own
returns-clause-own g c =
    rests c.read_registers.result c.ok_or.result (bench_of c.read_registers.new.lease) c.read_cell.new.out c.ok_or.ensures.ok_part c.read_registers.ensures.body c.read_registers.ensures.reads c.read_registers.ensures.damaged
