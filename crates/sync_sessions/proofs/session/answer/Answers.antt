use Rattle.sync_server.proofs.Framing.{fits_all}
use Rattle.sync_sessions.proofs.session.answer.Goals as goal

pub send_message-requires : goal.send_message-requires
send_message-requires g c = fits_all g.F.Op.Spell.fits g.met.F.ServedFamily.within c.in-Ok.reply c.in-Ok.ensures.limits
