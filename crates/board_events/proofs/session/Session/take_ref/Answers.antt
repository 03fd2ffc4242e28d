use Prim.{search}
use Rattle.std.proofs.Common.{refl, rules}
use Rattle.board_events.proofs.session.Session.take_ref.Goals as goal

pub returns-in-Message-Dump : goal.returns-in-Message-Dump
returns-in-Message-Dump c = search rules

pub returns-in-Message-Other : goal.returns-in-Message-Other
returns-in-Message-Other c = search rules

pub returns-in-Fault : goal.returns-in-Fault
returns-in-Fault c = rw (c.in-Fault.is, ← c.self.view_is) (record {
  stands = λ setting past h. record { trust = refl; reading = h.reading; first = h.first; rotated = h.rotated; settler = h.settler };
  tells = λ setting past h. record { asks = refl; entry = refl; seen = tt };
  idle = search rules;
  refused = tt;
  memory = λ setting past h. tt;
})
