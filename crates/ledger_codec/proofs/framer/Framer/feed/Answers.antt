use Rattle.ledger_codec.proofs.Stable.{frames_stay}
use Rattle.ledger_codec.proofs.framer.Framer.feed.Goals as goal

pub returns-in_err-extend_from_slice-clause-frames : goal.returns-in_err-extend_from_slice-clause-frames
returns-in_err-extend_from_slice-clause-frames c = frames_stay c.args.self.now.limit c.args.self.now.bytes c.args.piece.now

pub returns-clause-frames : goal.returns-clause-frames
returns-clause-frames c = frames_stay c.args.self.now.limit c.args.self.now.bytes c.args.piece.now
