use Rattle.verb_script.proofs.PartLemmas.{says_of}
use Rattle.verb_script.proofs.request.Request.parts.Goals as goal

-- what the parts of a row are is computed of the row that the request is
pub returns-in-Csnbktp : goal.returns-in-Csnbktp
returns-in-Csnbktp c = says_of c.args.self.now _ c.plain.result c.in-Csnbktp.is c.plain.ensures

pub returns-in-Csnbrng : goal.returns-in-Csnbrng
returns-in-Csnbrng c = says_of c.args.self.now _ c.plain-in-Csnbrng.result c.in-Csnbrng.is c.plain-in-Csnbrng.ensures

pub returns-in-Csnbktc : goal.returns-in-Csnbktc
returns-in-Csnbktc c = says_of c.args.self.now _ c.plain-in-Csnbktc.result c.in-Csnbktc.is c.plain-in-Csnbktc.ensures

pub returns-in-Csnbkrl : goal.returns-in-Csnbkrl
returns-in-Csnbkrl c = says_of c.args.self.now _ c.plain-in-Csnbkrl.result c.in-Csnbkrl.is c.plain-in-Csnbkrl.ensures

pub returns-in-Csnbkyt : goal.returns-in-Csnbkyt
returns-in-Csnbkyt c = says_of c.args.self.now _ c.of_key.result c.in-Csnbkyt.is c.of_key.ensures

pub returns-in-Csnbcki : goal.returns-in-Csnbcki
returns-in-Csnbcki c = says_of c.args.self.now _ c.of_key-in-Csnbcki.result c.in-Csnbcki.is c.of_key-in-Csnbcki.ensures

pub returns-in-CsnbkgnOp : goal.returns-in-CsnbkgnOp
returns-in-CsnbkgnOp c = says_of c.args.self.now _ c.of_key-in-CsnbkgnOp.result c.in-CsnbkgnOp.is c.of_key-in-CsnbkgnOp.ensures

pub returns-in-CsnbkpiFirst : goal.returns-in-CsnbkpiFirst
returns-in-CsnbkpiFirst c = says_of c.args.self.now _ c.of_key-in-CsnbkpiFirst.result c.in-CsnbkpiFirst.is c.of_key-in-CsnbkpiFirst.ensures

pub returns-in-CsnbkgnPair : goal.returns-in-CsnbkgnPair
returns-in-CsnbkgnPair c = says_of c.args.self.now _ c.of_keys.result c.in-CsnbkgnPair.is c.of_keys.ensures

pub returns-in-CsnbkgnOut : goal.returns-in-CsnbkgnOut
returns-in-CsnbkgnOut c = says_of c.args.self.now _ c.of_keys-in-CsnbkgnOut.result c.in-CsnbkgnOut.is c.of_keys-in-CsnbkgnOut.ensures

pub returns-in-Csnbkim : goal.returns-in-Csnbkim
returns-in-Csnbkim c = says_of c.args.self.now _ c.of_keys-in-Csnbkim.result c.in-Csnbkim.is c.of_keys-in-Csnbkim.ensures

pub returns-in-Csnbkex : goal.returns-in-Csnbkex
returns-in-Csnbkex c = says_of c.args.self.now _ c.of_keys-in-Csnbkex.result c.in-Csnbkex.is c.of_keys-in-Csnbkex.ensures

pub returns-in-Csnbpex : goal.returns-in-Csnbpex
returns-in-Csnbpex c = says_of c.args.self.now _ c.of_keys-in-Csnbpex.result c.in-Csnbpex.is c.of_keys-in-Csnbpex.ensures

pub returns-in-CsnbkpiMiddle : goal.returns-in-CsnbkpiMiddle
returns-in-CsnbkpiMiddle c = says_of c.args.self.now _ c.of_keys-in-CsnbkpiMiddle.result c.in-CsnbkpiMiddle.is c.of_keys-in-CsnbkpiMiddle.ensures

pub returns-in-Csnbktr : goal.returns-in-Csnbktr
returns-in-Csnbktr c = says_of c.args.self.now _ c.of_keys-in-Csnbktr.result c.in-Csnbktr.is c.of_keys-in-Csnbktr.ensures

pub returns-in-Csnbkrc : goal.returns-in-Csnbkrc
returns-in-Csnbkrc c = says_of c.args.self.now _ c.of_label.result c.in-Csnbkrc.is c.of_label.ensures

pub returns-in-Csnbkrw : goal.returns-in-Csnbkrw
returns-in-Csnbkrw c = says_of c.args.self.now _ c.of_label-in-Csnbkrw.result c.in-Csnbkrw.is c.of_label-in-Csnbkrw.ensures

pub returns-in-Csnbkrr : goal.returns-in-Csnbkrr
returns-in-Csnbkrr c = says_of c.args.self.now _ c.of_label-in-Csnbkrr.result c.in-Csnbkrr.is c.of_label-in-Csnbkrr.ensures

pub returns-in-Csnbkrd : goal.returns-in-Csnbkrd
returns-in-Csnbkrd c = says_of c.args.self.now _ c.of_label-in-Csnbkrd.result c.in-Csnbkrd.is c.of_label-in-Csnbkrd.ensures
