use Rattle.std.proofs.Common.{rules, ◌≡◌, ◌≤◌, ◌+◌, ◌*◌, [], IsTrue, refl, arith}
use Rattle.dgt_frame.specs.Decoder.{DecodedBy}
use Rattle.dgt_frame.proofs.decode.Decoder.measure.Goals as goal
use Rattle.dgt_frame.specs.declared.decode.State.TheVariants.{Measured}
use Rattle.dgt_frame.specs.Layout.{FitsSize}
use Rattle.dgt_frame.specs.Inside.Stored.{message_stored}
use Rattle.dgt_frame.proofs.StoredLemmas.{frame_stored}
use Rattle.dgt_frame.proofs.StateLemmas.{missizes_high, ends_empty, fills_high}

pub returns-then-not-fits_size : goal.returns-then-not-fits_size
returns-then-not-fits_size c bytes events d =
    let s : DecodedBy (Measured c.args.id c.args.high) c.args.self.now.stored bytes events = rw c.requires.state at d.state in
    let sum : 128 * c.args.high + c.args.low ≡ c.from.result * 128 + c.from-2.result = omega arith in
    let no : FitsSize c.args.id (c.from.result * 128 + c.from-2.result) → ⊥ = λ f. let yes : IsTrue c.fits_size.result = c.fits_size.ensures.1 f in cc in
    record { state = rw (c.fail.ensures.skips, c.fail.ensures.fault) (missizes_high c.args.id c.args.high c.args.self.now.stored c.fail.new.self.stored bytes events c.args.low c.requires.low (rw sum no) s) }

pub returns-then-size-eq-NO_DATA : goal.returns-then-size-eq-NO_DATA
returns-then-size-eq-NO_DATA c bytes events d =
    let s : DecodedBy (Measured c.args.id c.args.high) c.args.self.now.stored bytes events = rw c.requires.state at d.state in
    let fits : FitsSize c.args.id (c.from.result * 128 + c.from-2.result) = c.fits_size.ensures.0 (search rules) in
    let size = c.from.result * 128 + c.from-2.result in
    let sum : size ≡ 128 * c.args.high + c.args.low = omega arith in
    record {
      state = ends_empty c.args.id c.args.high c.args.self.now.stored c.args.self.now.stored bytes events c.args.low (message_stored c.args.id size c.args.self.now.stored)
          (λ i h. frame_stored c.args.id c.args.high c.args.low size [] c.args.self.now.stored (omega arith) (i, h, c.requires.low, sum, fits) tt (omega arith) (λ short. refl)) s;
    }

pub returns : goal.returns
returns c bytes events d =
    let s : DecodedBy (Measured c.args.id c.args.high) c.args.self.now.stored bytes events = rw c.requires.state at d.state in
    let fits : FitsSize c.args.id (c.from.result * 128 + c.from-2.result) = c.fits_size.ensures.0 (search rules) in
    let long : 3 ≤ c.from.result * 128 + c.from-2.result = fits.0 in
    record { state = fills_high c.args.id c.args.high (c.from.result * 128 + c.from-2.result) c.args.self.now.stored bytes events c.args.low c.requires.low (omega arith) fits (omega arith) s }
