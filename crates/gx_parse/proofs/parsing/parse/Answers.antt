use Rattle.gx_parse.proofs.FaultFacts.{told}
use Rattle.gx_parse.proofs.SaidParts as parts
use Rattle.gx_parse.proofs.parsing.parse.Goals as goal

pub returns : goal.returns
returns c = record {
  answer = told c.args.piece.now c.read_piece.result c.read_piece.ensures;
  sound = parts.told c.sound_statements.ensures c.args.piece.now c.read_piece.result c.read_piece.ensures;
}
