-- `skeleton_certificate` meets its contract. Assumes nothing.
use Rattle.driver.proofs.Replies.{reaches_as, reply_of}
use Rattle.driver.proofs.skeleton_certificate.Goals as goal

pub returns : goal.returns
returns c =
    let h =
    reaches_as _ (reply_of _ _ _ _ c.request-answer.ensures.answered c.status_number.ensures.number
    c.reply_first.ensures.first c.certificate_shown.ensures.certificate c.certificate_numbers-numbers.ensures.numbers) (
      c.tell.ensures.returned,
      c.tell.ensures.written,
    ) in
    record { returned = h.0; written = h.1 }
