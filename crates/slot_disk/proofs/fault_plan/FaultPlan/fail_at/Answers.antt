use Rattle.std.proofs.Common.{rules, ◌≡◌, length, Some, Option, ℕ, List, slice_set, ap, ◌∙◌}
use Rattle.slot_disk.proofs.Lists.{set-turned}
use Rattle.slot_disk.proofs.fault_plan.FaultPlan.fail_at.Goals as goal
use Rattle.slot_disk.specs.declared.fault_plan.FaultPlan.{FaultPlan}

pub returns : goal.returns
returns c =
    let long : length c.args.self.now.failing ≡ 8 = search rules in
    let turned = ap (λ (l : List (Option ℕ)). slice_set l 7 (Some c.args.call)) c.rotate_left.ensures.after ∙ set-turned c.args.self.now.failing 7 (Some c.args.call) long in
    ap (λ (l : List (Option ℕ)). let plan : FaultPlan = record { calls = c.args.self.now.calls; failing = l; faults = c.args.self.now.faults } in plan) turned
