use Rattle.std.proofs.Common.{◌≡◌, refl, sym, ap, true≢false}
use Rattle.std.specs.Prelude.{IsTrue}
use Rattle.verb_script.specs.Parsed.{seen}
use Rattle.verb_script.specs.declared.request.Request.{Request as Parsed}
use Rattle.verb_script.specs.declared.request.Request.TheVariants as parsed
use Rattle.request_verbs.specs.KeyWorks.{is_over_keys}
use Rattle.request_verbs.proofs.OverKeys.{can_deliver, can_of, double_key, some_key}
use Rattle.cca_machine.proofs.Settling.{handed_on, handed_on_drawing}
use Rattle.request_verbs.proofs.verbs.key_work.over_keys.Goals as goal

-- no other request is one over keys
refused : (g : _) (c : goal.In_default g) (r : Parsed) → c.args.request.now ≡ r → IsTrue (is_over_keys (seen r).name) → ⊥
refused g c (parsed.Csnbkyt role key) is over = c.in_default.not-Csnbkyt role key is
refused g c (parsed.Csnbcki role clear to) is over = c.in_default.not-Csnbcki role clear to is
refused g c (parsed.CsnbkgnOp role form length type1 to) is over = c.in_default.not-CsnbkgnOp role form length type1 to is
refused g c (parsed.CsnbkgnPair role form length type1 type2 transport2 to) is over = c.in_default.not-CsnbkgnPair role form length type1 type2 transport2 to is
refused g c (parsed.CsnbkgnOut role form length type1 type2 transport1 transport2) is over = c.in_default.not-CsnbkgnOut role form length type1 type2 transport1 transport2 is
refused g c (parsed.Csnbkim role token transport to) is over = c.in_default.not-Csnbkim role token transport to is
refused g c (parsed.Csnbkex role key transport) is over = c.in_default.not-Csnbkex role key transport is
refused g c (parsed.Csnbpex role key to) is over = c.in_default.not-Csnbpex role key to is
refused g c (parsed.Csnbktc role rule token) is over = c.in_default.not-Csnbktc role rule token is
refused g c (parsed.CsnbkpiFirst role rule kind part to) is over = c.in_default.not-CsnbkpiFirst role rule kind part to is
refused g c (parsed.CsnbkpiMiddle role rule key part to) is over = c.in_default.not-CsnbkpiMiddle role rule key part to is
refused g c (parsed.Csnbktr role token transport1 transport2) is over = c.in_default.not-Csnbktr role token transport1 transport2 is
refused g c _ is over = absurd (true≢false (sym over))

pub csnbkyt-requires-clause-key : goal.csnbkyt-requires-clause-key
csnbkyt-requires-clause-key g c = some_key ((can_of (ap seen c.in-Csnbkyt.is) c.requires.can).passed.shaped.0)

pub csnbkyt-requires-clause-empty : goal.csnbkyt-requires-clause-empty
csnbkyt-requires-clause-empty g c = c.requires.can.empty

pub csnbcki-requires-clause-clear : goal.csnbcki-requires-clause-clear
csnbcki-requires-clause-clear g c = (can_of (ap seen c.in-Csnbcki.is) c.requires.can).passed.accepted.1.0

pub csnbcki-requires-clause-delivers : goal.csnbcki-requires-clause-delivers
csnbcki-requires-clause-delivers g c =
    let can = can_of (ap seen c.in-Csnbcki.is) c.requires.can in
    can_deliver c.in-Csnbcki.to.now c.args.granted.now.first can (can.passed.master refl) can.passed.shaped.0

pub generate_one-requires : goal.generate_one-requires
generate_one-requires g c =
    let can = can_of (ap seen c.in-CsnbkgnOp.is) c.requires.can in
    record { delivers = can_deliver c.in-CsnbkgnOp.to.now c.args.granted.now.first can (can.passed.master refl) can.passed.shaped.0 }

pub generate_pair-requires-clause-form : goal.generate_pair-requires-clause-form
generate_pair-requires-clause-form g c = (can_of (ap seen c.in-CsnbkgnPair.is) c.requires.can).passed.accepted.1.0

pub generate_pair-requires-clause-delivers : goal.generate_pair-requires-clause-delivers
generate_pair-requires-clause-delivers g c =
    let can = can_of (ap seen c.in-CsnbkgnPair.is) c.requires.can in
    can_deliver c.in-CsnbkgnPair.to.now c.args.granted.now.second can (can.passed.master refl) can.passed.shaped.1

pub generate_out-requires-clause-form : goal.generate_out-requires-clause-form
generate_out-requires-clause-form g c = (can_of (ap seen c.in-CsnbkgnOut.is) c.requires.can).passed.accepted.1.0

pub generate_out-requires-clause-master : goal.generate_out-requires-clause-master
generate_out-requires-clause-master g c = (can_of (ap seen c.in-CsnbkgnOut.is) c.requires.can).passed.master refl

pub generate_out-requires-clause-loaded : goal.generate_out-requires-clause-loaded
generate_out-requires-clause-loaded g c = c.requires.can.loaded

pub generate_out-requires-clause-empty : goal.generate_out-requires-clause-empty
generate_out-requires-clause-empty g c = c.requires.can.empty

pub csnbkim-requires-clause-source : goal.csnbkim-requires-clause-source
csnbkim-requires-clause-source g c = (can_of (ap seen c.in-Csnbkim.is) c.requires.can).passed.shaped.0

pub csnbkim-requires-clause-transport : goal.csnbkim-requires-clause-transport
csnbkim-requires-clause-transport g c = double_key refl ((can_of (ap seen c.in-Csnbkim.is) c.requires.can).passed.shaped.1)

pub csnbkim-requires-clause-delivers : goal.csnbkim-requires-clause-delivers
csnbkim-requires-clause-delivers g c =
    let can = can_of (ap seen c.in-Csnbkim.is) c.requires.can in
    can_deliver c.in-Csnbkim.to.now c.args.granted.now.third can (can.passed.master refl) can.passed.shaped.2

pub csnbkex-requires-clause-key : goal.csnbkex-requires-clause-key
csnbkex-requires-clause-key g c = some_key ((can_of (ap seen c.in-Csnbkex.is) c.requires.can).passed.shaped.0)

pub csnbkex-requires-clause-transport : goal.csnbkex-requires-clause-transport
csnbkex-requires-clause-transport g c = double_key refl ((can_of (ap seen c.in-Csnbkex.is) c.requires.can).passed.shaped.1)

pub csnbkex-requires-clause-empty : goal.csnbkex-requires-clause-empty
csnbkex-requires-clause-empty g c = c.requires.can.empty

pub csnbpex-requires-clause-key : goal.csnbpex-requires-clause-key
csnbpex-requires-clause-key g c = some_key ((can_of (ap seen c.in-Csnbpex.is) c.requires.can).passed.shaped.0)

pub csnbpex-requires-clause-delivers : goal.csnbpex-requires-clause-delivers
csnbpex-requires-clause-delivers g c =
    let can = can_of (ap seen c.in-Csnbpex.is) c.requires.can in
    can_deliver c.in-Csnbpex.to.now c.args.granted.now.second can (can.passed.master refl) can.passed.shaped.1

pub csnbktc-requires-clause-key : goal.csnbktc-requires-clause-key
csnbktc-requires-clause-key g c = some_key ((can_of (ap seen c.in-Csnbktc.is) c.requires.can).passed.shaped.0)

pub csnbktc-requires-clause-master : goal.csnbktc-requires-clause-master
csnbktc-requires-clause-master g c = (can_of (ap seen c.in-Csnbktc.is) c.requires.can).passed.master refl

pub csnbktc-requires-clause-empty : goal.csnbktc-requires-clause-empty
csnbktc-requires-clause-empty g c = c.requires.can.empty

pub first-requires-clause-part : goal.first-requires-clause-part
first-requires-clause-part g c = (can_of (ap seen c.in-CsnbkpiFirst.is) c.requires.can).passed.accepted.1.1.1.0

pub first-requires-clause-delivers : goal.first-requires-clause-delivers
first-requires-clause-delivers g c =
    let can = can_of (ap seen c.in-CsnbkpiFirst.is) c.requires.can in
    can_deliver c.in-CsnbkpiFirst.to.now c.args.granted.now.first can (can.passed.master refl) can.passed.shaped.0

pub further-requires-clause-key : goal.further-requires-clause-key
further-requires-clause-key g c = some_key ((can_of (ap seen c.in-CsnbkpiMiddle.is) c.requires.can).passed.shaped.0)

pub further-requires-clause-part : goal.further-requires-clause-part
further-requires-clause-part g c = (can_of (ap seen c.in-CsnbkpiMiddle.is) c.requires.can).passed.accepted.1.1.1.0

pub further-requires-clause-delivers : goal.further-requires-clause-delivers
further-requires-clause-delivers g c =
    let can = can_of (ap seen c.in-CsnbkpiMiddle.is) c.requires.can in
    can_deliver c.in-CsnbkpiMiddle.to.now c.args.granted.now.second can (can.passed.master refl) can.passed.shaped.1

pub csnbktr-requires-clause-source : goal.csnbktr-requires-clause-source
csnbktr-requires-clause-source g c = (can_of (ap seen c.in-Csnbktr.is) c.requires.can).passed.shaped.0

pub csnbktr-requires-clause-one : goal.csnbktr-requires-clause-one
csnbktr-requires-clause-one g c = double_key refl ((can_of (ap seen c.in-Csnbktr.is) c.requires.can).passed.shaped.1)

pub csnbktr-requires-clause-two : goal.csnbktr-requires-clause-two
csnbktr-requires-clause-two g c = double_key refl ((can_of (ap seen c.in-Csnbktr.is) c.requires.can).passed.shaped.2)

pub csnbktr-requires-clause-empty : goal.csnbktr-requires-clause-empty
csnbktr-requires-clause-empty g c = c.requires.can.empty

pub unreachable-requires : goal.unreachable-requires
unreachable-requires g c = refused g c c.args.request.now refl c.requires.keys

pub returns-in-Csnbkyt : goal.returns-in-Csnbkyt
returns-in-Csnbkyt g c = record {
  decision =
      handed_on (ap seen c.in-Csnbkyt.is) (c.csnbkyt.ensures.settles _ _ c.args.held.now c.args.records.now) c.requires.can.passed.shaped;
}

pub returns-in-Csnbcki : goal.returns-in-Csnbcki
returns-in-Csnbcki g c = record {
  decision =
      handed_on (ap seen c.in-Csnbcki.is) (c.csnbcki.ensures.settles c.in-Csnbcki.role c.args.records.now) c.requires.can.passed.shaped;
}

pub returns-in-CsnbkgnOp : goal.returns-in-CsnbkgnOp
returns-in-CsnbkgnOp g c = record {
  decision =
      handed_on_drawing (ap seen c.in-CsnbkgnOp.is) (c.generate_one.ensures.settles c.in-CsnbkgnOp.role c.in-CsnbkgnOp.form.now c.args.records.now) c.requires.can.passed.shaped;
}

pub returns-in-CsnbkgnPair : goal.returns-in-CsnbkgnPair
returns-in-CsnbkgnPair g c = record {
  decision =
      handed_on_drawing (ap seen c.in-CsnbkgnPair.is) (c.generate_pair.ensures.settles c.in-CsnbkgnPair.role c.in-CsnbkgnPair.transport2.now c.args.records.now) c.requires.can.passed.shaped;
}

pub returns-in-CsnbkgnOut : goal.returns-in-CsnbkgnOut
returns-in-CsnbkgnOut g c = record {
  decision =
      handed_on_drawing (ap seen c.in-CsnbkgnOut.is) (c.generate_out.ensures.settles c.in-CsnbkgnOut.role c.in-CsnbkgnOut.transport1.now c.in-CsnbkgnOut.transport2.now c.args.records.now) c.requires.can.passed.shaped;
}

pub returns-in-Csnbkim : goal.returns-in-Csnbkim
returns-in-Csnbkim g c = record {
  decision =
      handed_on (ap seen c.in-Csnbkim.is) (c.csnbkim.ensures.settles c.in-Csnbkim.role c.in-Csnbkim.token.now c.in-Csnbkim.transport.now c.args.records.now) c.requires.can.passed.shaped;
}

pub returns-in-Csnbkex : goal.returns-in-Csnbkex
returns-in-Csnbkex g c = record {
  decision =
      handed_on (ap seen c.in-Csnbkex.is) (c.csnbkex.ensures.settles c.in-Csnbkex.role c.in-Csnbkex.key.now c.in-Csnbkex.transport.now c.args.held.now c.args.records.now) c.requires.can.passed.shaped;
}

pub returns-in-Csnbpex : goal.returns-in-Csnbpex
returns-in-Csnbpex g c = record {
  decision =
      handed_on (ap seen c.in-Csnbpex.is) (c.csnbpex.ensures.settles c.in-Csnbpex.role c.in-Csnbpex.key.now c.args.records.now) c.requires.can.passed.shaped;
}

pub returns-in-Csnbktc : goal.returns-in-Csnbktc
returns-in-Csnbktc g c = record {
  decision =
      handed_on (ap seen c.in-Csnbktc.is) (c.csnbktc.ensures.settles c.in-Csnbktc.role c.in-Csnbktc.token.now c.args.records.now) c.requires.can.passed.shaped;
}

pub returns-in-CsnbkpiFirst : goal.returns-in-CsnbkpiFirst
returns-in-CsnbkpiFirst g c = record {
  decision =
      handed_on (ap seen c.in-CsnbkpiFirst.is) (c.first.ensures.settles c.in-CsnbkpiFirst.role c.in-CsnbkpiFirst.rule.now c.args.records.now) c.requires.can.passed.shaped;
}

pub returns-in-CsnbkpiMiddle : goal.returns-in-CsnbkpiMiddle
returns-in-CsnbkpiMiddle g c = record {
  decision =
      handed_on (ap seen c.in-CsnbkpiMiddle.is) (c.further.ensures.settles c.in-CsnbkpiMiddle.role c.in-CsnbkpiMiddle.key.now c.args.records.now) c.requires.can.passed.shaped;
}

pub returns-in-Csnbktr : goal.returns-in-Csnbktr
returns-in-Csnbktr g c = record {
  decision =
      handed_on (ap seen c.in-Csnbktr.is) (c.csnbktr.ensures.settles c.in-Csnbktr.role c.in-Csnbktr.token.now c.in-Csnbktr.transport1.now c.in-Csnbktr.transport2.now c.args.held.now c.args.records.now) c.requires.can.passed.shaped;
}
