-- Whether a list is empty.
use Rattle.std.proofs.Common.{◌≡◌, true, List, [], map, rules}
use Rattle.iio_device.specs.Site.{is_empty}

module _ {A : Type 0} where
  pub empty_list : (xs : List A) → is_empty xs ≡ true → xs ≡ []
  empty_list xs e = search rules

  module _ {B : Type 0} (f : A → B) where
    pub is_empty-map : (xs : List A) → is_empty (map f xs) ≡ is_empty xs
    is_empty-map xs = search rules
