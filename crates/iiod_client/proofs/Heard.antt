-- What is heard, sent and printed, one after the other.
use Rattle.std.proofs.Common.{◌≡◌, ℕ, List, [], ◌++◌, take, drop, Option, Some, None, IfSome, sym, subst, append-nil, arith, rules}
use Rattle.std.proofs.lemmas.Grind.{common_steps}
use Rattle.std.proofs.lemmas.List.{take-append-drop}
use Rattle.iio_io.specs.Bytes.{WritesPart}
use Rattle.iiod_client.specs.Point.{Point, Heard, HeardFront, Wrote, WroteFront, Goes, Stops, point}

-- ---- hearing

pub heard_none : (l : Option (List ℕ)) (p : List ℕ) (s o s2 o2 : Option (List ℕ)) → Heard (point l p s o) [] (point l p s2 o2)
heard_none l p s o s2 o2 = search rules

heard_by : (l m n : Option (List ℕ)) (p q r x y : List ℕ) → Heard (point l p None None) x (point m q None None)
    → Heard (point m q None None) y (point n r None None) → Heard (point l p None None) (x ++ y) (point n r None None)
heard_by l m n p q r x y h k = grind (arith, common_steps)

pub heard_more : (a b c : Point) (x y : List ℕ) → Heard a x b → Heard b y c → Heard a (x ++ y) c
heard_more a b c x y h k = heard_by a.left b.left c.left a.pending b.pending c.pending x y h k

-- the first of the pending bytes
pub heard_pending : (l : Option (List ℕ)) (p x r : List ℕ) → p ≡ x ++ r → Heard (point l p None None) x (point l r None None)
heard_pending l p x r e = grind (arith, common_steps)

pub heard_front : (a b : Point) (x : List ℕ) → Heard a x b → HeardFront a x
heard_front a b x h = search rules

-- ---- writing

pub wrote_none : (o : Option (List ℕ)) → Wrote o [] o
wrote_none o = search rules

pub wrote_more : (a b c : Option (List ℕ)) (x y : List ℕ) → Wrote a x b → Wrote b y c → Wrote a (x ++ y) c
wrote_more a b c x y h k = grind (arith, common_steps)

pub front_whole : (a b : Option (List ℕ)) (x y : List ℕ) → Wrote a x b → WroteFront a (x ++ y) b
front_whole a b x y h = search rules

pub all_of : (a b : Option (List ℕ)) (x : List ℕ) → Wrote a x b → WroteFront a x b
all_of a b x h = subst (λ xs. WroteFront a xs b) (append-nil x) (front_whole a b x [] h)

pub wrote_front : (a b c : Option (List ℕ)) (x y : List ℕ) → Wrote a x b → WroteFront b y c → WroteFront a (x ++ y) c
wrote_front a b c x y h k = grind (arith, common_steps)

pub front_on : (a b : Option (List ℕ)) (x y : List ℕ) → WroteFront a x b → WroteFront a (x ++ y) b
front_on a b x y h = grind (arith, common_steps)

pub part_front : (a b : Option (List ℕ)) (x : List ℕ) → IfSome a (λ ys. WritesPart ys x b) → WroteFront a x b
part_front None b x h = tt
part_front (Some ys) b x h = (take h.count x, drop h.count x, sym (take-append-drop h.count x), h.appended)

-- ---- both

pub goes_more : (a b c : Point) (h k s t o p : List ℕ) → Goes a h s o b → Goes b k t p c → Goes a (h ++ k) (s ++ t) (o ++ p) c
goes_more a b c h k s t o p g j = grind (arith, common_steps)

pub stops_more : (a b c : Point) (h k s t o p : List ℕ) → Goes a h s o b → Stops b k t p c → Stops a (h ++ k) (s ++ t) (o ++ p) c
stops_more a b c h k s t o p g j = grind (arith, common_steps)
