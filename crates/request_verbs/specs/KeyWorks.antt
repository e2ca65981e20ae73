-- Which requests make, change, bring over or test keys.
use Rattle.std.specs.Prelude.{Bool, true, false}
use Rattle.verb_script.specs.declared.rows.RequestName.{RequestName}
use Rattle.verb_script.specs.declared.rows.RequestName.TheVariants.{Csnbkyt, Csnbcki, CsnbkgnOp, CsnbkgnPair, CsnbkgnOut, Csnbkim, Csnbkex, Csnbpex, Csnbktc, CsnbkpiFirst, CsnbkpiMiddle, Csnbktr}

abbrev pub is_over_keys : RequestName → Bool
is_over_keys Csnbkyt = true
is_over_keys Csnbcki = true
is_over_keys CsnbkgnOp = true
is_over_keys CsnbkgnPair = true
is_over_keys CsnbkgnOut = true
is_over_keys Csnbkim = true
is_over_keys Csnbkex = true
is_over_keys Csnbpex = true
is_over_keys Csnbktc = true
is_over_keys CsnbkpiFirst = true
is_over_keys CsnbkpiMiddle = true
is_over_keys Csnbktr = true
is_over_keys _ = false
