-- What is lawful before a token is lawful behind it.
use Rattle.std.proofs.Common.{◌∷◌, List, Option}
use Rattle.tc_model.specs.Document.{Scalar}
use Rattle.tc_record.specs.Preorder.{Piece, scalar, array_opened, object_opened, closed, Token, token}
use Rattle.tc_record.specs.Walk.{Key}
use Rattle.tc_record.specs.Building.{levels_of, HoldDocuments}
use Rattle.tc_record.proofs.Built.{array_holds, levels_hold, object_holds}

pub token_holds : (p : Piece Scalar) (l : Option Key) (ts : List (Token Key Scalar)) → HoldDocuments (levels_of (token l p ∷ ts)) → HoldDocuments (levels_of ts)
token_holds (scalar s) l ts holds = levels_hold (levels_of ts) holds.0.1 holds.1
token_holds array_opened l ts holds = array_holds l ts holds
token_holds object_opened l ts holds = object_holds l ts holds
token_holds closed l ts holds = holds.1
