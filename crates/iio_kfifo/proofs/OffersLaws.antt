-- What another offer makes of the scans accepted and of the number lost.
use Rattle.std.proofs.Common.{◌≡◌, ℕ, ◌+◌, List, [], ◌∷◌, ◌++◌, refl, ap, ◌∙◌, arith}
use Rattle.iio_kfifo.specs.declared.view.Offer.{Offer}
use Rattle.iio_kfifo.specs.declared.view.Offer.TheVariants.{Accepted, Refused}
use Rattle.iio_kfifo.specs.declared.view.Sent.{Sent}
use Rattle.iio_kfifo.specs.Offers.{accepted_after, accepted, lost_in}

sent_with : List ℕ → ℕ → Sent
sent_with scan lost = record { scan = scan; lost = lost }

accept_from : (lost : ℕ) (offers : List Offer) (scan : List ℕ)
    → accepted_after lost (offers ++ Accepted scan ∷ []) ≡ accepted_after lost offers ++ sent_with scan (lost + lost_in offers) ∷ []
unfolding sent_with
accept_from lost [] scan = let e : lost ≡ lost + 0 = omega arith in ap (λ (n : ℕ). sent_with scan n ∷ []) e
accept_from lost (Accepted s ∷ offers) scan = ap (λ (xs : List Sent). sent_with s lost ∷ xs) (accept_from lost offers scan)
accept_from lost (Refused ∷ offers) scan =
    let e : (lost + 1) + lost_in offers ≡ lost + (lost_in offers + 1) = omega arith in
    accept_from (lost + 1) offers scan ∙ ap (λ (n : ℕ). accepted_after (lost + 1) offers ++ sent_with scan n ∷ []) e

refuse_from : (lost : ℕ) (offers : List Offer) → accepted_after lost (offers ++ Refused ∷ []) ≡ accepted_after lost offers
refuse_from lost [] = refl
refuse_from lost (Accepted s ∷ offers) = ap (λ (xs : List Sent). record { scan = s; lost = lost } ∷ xs) (refuse_from lost offers)
refuse_from lost (Refused ∷ offers) = refuse_from (lost + 1) offers

pub accepted-accept : (offers : List Offer) (scan : List ℕ)
    → accepted (offers ++ Accepted scan ∷ []) ≡ accepted offers ++ record { scan = scan; lost = lost_in offers } ∷ []
unfolding sent_with
accepted-accept offers scan =
    let e : 0 + lost_in offers ≡ lost_in offers = omega arith in
    accept_from 0 offers scan ∙ ap (λ (n : ℕ). accepted offers ++ sent_with scan n ∷ []) e

pub accepted-refuse : (offers : List Offer) → accepted (offers ++ Refused ∷ []) ≡ accepted offers
accepted-refuse offers = refuse_from 0 offers

pub lost-accept : (offers : List Offer) (scan : List ℕ) → lost_in (offers ++ Accepted scan ∷ []) ≡ lost_in offers
lost-accept [] scan = refl
lost-accept (Accepted s ∷ offers) scan = lost-accept offers scan
lost-accept (Refused ∷ offers) scan = ap (λ (n : ℕ). n + 1) (lost-accept offers scan)

pub lost-refuse : (offers : List Offer) → lost_in (offers ++ Refused ∷ []) ≡ lost_in offers + 1
lost-refuse [] = refl
lost-refuse (Accepted s ∷ offers) = lost-refuse offers
lost-refuse (Refused ∷ offers) = ap (λ (n : ℕ). n + 1) (lost-refuse offers)
