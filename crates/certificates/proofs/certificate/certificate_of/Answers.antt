-- `certificate::certificate_of` meets its contract. Each side's pair number is what `pair_of` ensures. Assumes nothing.
use mathlib.Core.List.{[], ◌∷◌}
use Rattle.certificates.specs.Certificate.{certificate_of}
use Rattle.certificates.proofs.certificate.certificate_of.Goals as goal

pub returns : goal.returns
unfolding certificate_of
returns c = record {
  kept =
      λ i. record {
        r = c.args.r;
        s = c.args.s;
        sides = c.pair_of-pr.ensures.numbered i ∷
            c.pair_of-qr.ensures.numbered i ∷ c.pair_of-ps.ensures.numbered i ∷ c.pair_of-qs.ensures.numbered i ∷ [];
      };
}
