use Rattle.std.proofs.Common.{ℕ, List, Option, sym, subst, ◌∙◌}
use Rattle.std.specs.Prelude.{set}
use Rattle.std.proofs.lemmas.List.{map-set}
use Rattle.device_cells.specs.Cells.{IsReplaced, IsReplacing}
use Rattle.device_cells.specs.Medium.{Becomes, EachImage, From}
use Rattle.cca_roles.specs.Directory.{AreApart}
use Rattle.cca_roles.specs.Roles.{names, name_of}
use Rattle.cca_roles.specs.declared.roles.Role.{Role}
use Rattle.cca_roles.proofs.StandLaws.{told_set, told_turned, either_becomes, either_moments}
use Rattle.cca_roles.proofs.roles.Roles.change.Goals as goal
use Rattle.key_cells.proofs.AnswerLemmas.{unless_err}

apart_next : (s : List (Option Role)) (n : ℕ) (slot : Option Role) → AreApart (set (names s) n (name_of slot)) → AreApart (names (set s n slot))
apart_next s n slot apart = subst AreApart (sym (map-set name_of s n slot)) apart

pub returns-then-is_err-clause-changed : goal.returns-then-is_err-clause-changed
returns-then-is_err-clause-changed g c =
    let s : List (Option Role) = c.args.self.now in
    let bytes : List ℕ = c.args.body.now in
    let m0 = g.M.Disk.medium c.args.«module».now in
    let m1 = g.M.Disk.medium c.replace_cell.new.disk in
    let apart = apart_next s c.args.place c.args.slot c.requires.apart in
    record {
      settled = tt;
      stands = tt;
      turned = tt;
      either = either_becomes c.args.place bytes c.args.slot s c.requires.within c.requires.reads apart m0 m1 c.requires.stands
          (subst (λ (n : ℕ). Becomes (IsReplacing n bytes) m0 m1) c.new.ensures c.replace_cell.ensures.replacing);
      moments = either_moments c.args.place bytes c.args.slot s c.requires.within c.requires.reads apart m0 m1 c.requires.stands
          (subst (λ (n : ℕ). EachImage m0 m1 (From (IsReplacing n bytes) m0)) c.new.ensures c.replace_cell.ensures.moments);
    }

pub returns-clause-changed : goal.returns-clause-changed
returns-clause-changed g c =
    let s : List (Option Role) = c.args.self.now in
    let bytes : List ℕ = c.args.body.now in
    let m0 = g.M.Disk.medium c.args.«module».now in
    let m1 = g.M.Disk.medium c.replace_cell.new.disk in
    let apart = apart_next s c.args.place c.args.slot c.requires.apart in
    record {
      settled = unless_err c.replace_cell.result (sym c.is_err.ensures.value ∙ c.if-is_err.false) c.replace_cell.ensures.settled;
      stands = told_set c.args.place bytes c.args.slot s c.requires.within c.requires.reads apart m0 m1 c.requires.stands
          (subst (λ (n : ℕ). Becomes (IsReplaced n bytes) m0 m1) c.new.ensures
          (unless_err c.replace_cell.result (sym c.is_err.ensures.value ∙ c.if-is_err.false) c.replace_cell.ensures.replaced));
      turned = told_turned c.args.place bytes c.args.slot s c.requires.within c.requires.reads apart m0 m1 c.requires.stands
          (subst (λ (n : ℕ). Becomes (IsReplaced n bytes) m0 m1) c.new.ensures
          (unless_err c.replace_cell.result (sym c.is_err.ensures.value ∙ c.if-is_err.false) c.replace_cell.ensures.replaced));
      either = either_becomes c.args.place bytes c.args.slot s c.requires.within c.requires.reads apart m0 m1 c.requires.stands
          (subst (λ (n : ℕ). Becomes (IsReplacing n bytes) m0 m1) c.new.ensures c.replace_cell.ensures.replacing);
      moments = either_moments c.args.place bytes c.args.slot s c.requires.within c.requires.reads apart m0 m1 c.requires.stands
          (subst (λ (n : ℕ). EachImage m0 m1 (From (IsReplacing n bytes) m0)) c.new.ensures c.replace_cell.ensures.moments);
    }

pub returns-then-is_err-clause-written : goal.returns-then-is_err-clause-written
returns-then-is_err-clause-written g c =
    let bytes : List ℕ = c.args.body.now in
    let m0 = g.M.Disk.medium c.args.«module».now in
    let m1 = g.M.Disk.medium c.replace_cell.new.disk in
    record {
      replaced = tt;
      replacing = subst (λ (n : ℕ). Becomes (IsReplacing n bytes) m0 m1) c.new.ensures c.replace_cell.ensures.replacing;
      moments = subst (λ (n : ℕ). EachImage m0 m1 (From (IsReplacing n bytes) m0)) c.new.ensures c.replace_cell.ensures.moments;
    }

pub returns-clause-written : goal.returns-clause-written
returns-clause-written g c =
    let bytes : List ℕ = c.args.body.now in
    let m0 = g.M.Disk.medium c.args.«module».now in
    let m1 = g.M.Disk.medium c.replace_cell.new.disk in
    record {
      replaced = subst (λ (n : ℕ). Becomes (IsReplaced n bytes) m0 m1) c.new.ensures
          (unless_err c.replace_cell.result (sym c.is_err.ensures.value ∙ c.if-is_err.false) c.replace_cell.ensures.replaced);
      replacing = subst (λ (n : ℕ). Becomes (IsReplacing n bytes) m0 m1) c.new.ensures c.replace_cell.ensures.replacing;
      moments = subst (λ (n : ℕ). EachImage m0 m1 (From (IsReplacing n bytes) m0)) c.new.ensures c.replace_cell.ensures.moments;
    }
