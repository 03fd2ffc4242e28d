-- What stands after several writes.
use Rattle.std.proofs.Common.{◌≡◌, ℕ, ◌+◌, ◌^◌, ◌<◌, List, [], ◌++◌, length, take, Option, None, Some, Bool, true, false, refl, sym, ap, subst, ◌∙◌, arith, length-append}
use Rattle.std.specs.Io.KnownBytes.{Appends, Keeps}
use Rattle.std.proofs.KnownBytes.{Appends-trans, Appends-nil, Keeps-trans, Keeps-refl}
use Rattle.std.proofs.lemmas.List.{take-append-le}
use Rattle.std.proofs.Math.Seq.{take-append-add}
use Rattle.pgn_book.specs.declared.place.Place.{Place}
use Rattle.pgn_book.specs.Inside.Flow.{flow, column_after, HasAdded, Stops, AddsFrom, Adds, Writes}
use Rattle.pgn_book.proofs.Flowing.{flow-append, column_after-append}

pub HasAdded-then : (a b c : Option (List ℕ)) (x y z : ℕ) (s t : List ℕ) → HasAdded a b x s y → HasAdded b c y t z → HasAdded a c x (s ++ t) z
HasAdded-then a b c x y z s t h k =
    record { bytes = Appends-trans a b c s t h.bytes k.bytes; count = omega (arith, h.count, k.count, length-append s t) }

pub Stops-more : (a b : Option (List ℕ)) (x z : ℕ) (s t : List ℕ) → Stops a b x s z → Stops a b x (s ++ t) z
Stops-more a b x z s t h =
    (h.0, omega (arith, h.1, length-append s t), subst (λ (u : List ℕ). HasAdded a b x u z) (sym (take-append-le h.0 s t (omega (arith, h.1)))) h.2)

pub Stops-after : (a b c : Option (List ℕ)) (x y z : ℕ) (s t : List ℕ) → HasAdded a b x s y → Stops b c y t z → Stops a c x (s ++ t) z
Stops-after a b c x y z s t h k =
    (length s + k.0, omega (arith, k.1, length-append s t), rw (take-append-add s t k.0) (HasAdded-then a b c x y z s (take k.0 t) h k.2))

-- ---- with the flag

Appends-kept : (a b c : Option (List ℕ)) (s : List ℕ) → Appends a b s → Keeps b c → Appends a c s
Appends-kept None b c s p q = tt
Appends-kept (Some x) None c s p q = absurd p
Appends-kept (Some x) (Some y) None s p q = absurd q
Appends-kept (Some x) (Some y) (Some z) s p q = q ∙ p

pub AddsFrom-then : (a b c : Option (List ℕ)) (f : Bool) (x : ℕ) (g : Bool) (y : ℕ) (h : Bool) (z : ℕ) (s t : List ℕ)
    → AddsFrom a b f x g y s → AddsFrom b c g y h z t → AddsFrom a c f x h z (s ++ t)
AddsFrom-then a b c true x true y h z s t p q = (Keeps-trans a b c p.0 q.0, q.1, q.2 ∙ p.2)
AddsFrom-then a b c true x false y h z s t p q = absurd cc
AddsFrom-then a b c false x true y true z s t p q =
    let m = Stops-more a b x y s t p in
    (m.0, m.1, record { bytes = Appends-kept a b c (take m.0 (s ++ t)) m.2.bytes q.0; count = q.2 ∙ m.2.count })
AddsFrom-then a b c false x true y false z s t p q = absurd cc
AddsFrom-then a b c false x false y true z s t p q = Stops-after a b c x y z s t p q
AddsFrom-then a b c false x false y false z s t p q = HasAdded-then a b c x y z s t p q

pub Adds-then : (a b c : Option (List ℕ)) (f g h : Bool) (p q r : Place) (s t : List ℕ) → Adds a b f g p q s → Adds b c g h q r t → Adds a c f h p r (s ++ t)
Adds-then a b c f g h p q r s t x y = AddsFrom-then a b c f p.written g q.written h r.written s t x y

AddsFrom-nil : (a : Option (List ℕ)) (f : Bool) (x : ℕ) → x < 2 ^ 64 → AddsFrom a a f x f x []
AddsFrom-nil a true x lt = (Keeps-refl a, refl, refl)
AddsFrom-nil a false x lt = record { bytes = Appends-nil a; count = omega arith }

pub Adds-nil : (a : Option (List ℕ)) (f : Bool) (p : Place) → Adds a a f f p p []
Adds-nil a f p = AddsFrom-nil a f p.written p.counted

pub Writes-then : (a b c : Option (List ℕ)) (f g h : Bool) (p q r : Place) (ts us : List (List ℕ)) → Writes a b f g p q ts → Writes b c g h q r us → Writes a c f h p r (ts ++ us)
Writes-then a b c f g h p q r ts us x y =
    let second : Adds b c g h q r (flow (column_after p.column ts) us) = subst (λ (n : ℕ). Adds b c g h q r (flow n us)) x.column y.adds in
    record {
      adds = subst (λ (u : List ℕ). Adds a c f h p r u) (sym (flow-append p.column ts us)) (Adds-then a b c f g h p q r (flow p.column ts) (flow (column_after p.column ts) us) x.adds second);
      column = y.column ∙ ap (λ (n : ℕ). column_after n us) x.column ∙ sym (column_after-append p.column ts us);
    }

pub Writes-nil : (a : Option (List ℕ)) (f : Bool) (p : Place) → Writes a a f f p p []
Writes-nil a f p = record { adds = Adds-nil a f p; column = refl }

pub Adds-same : (a b : Option (List ℕ)) (f g : Bool) (p q : Place) (s t : List ℕ) → s ≡ t → Adds a b f g p q s → Adds a b f g p q t
Adds-same a b f g p q s t e h = subst (λ (u : List ℕ). Adds a b f g p q u) e h

pub Writes-same : (a b : Option (List ℕ)) (f g : Bool) (p q : Place) (ts us : List (List ℕ)) → ts ≡ us → Writes a b f g p q ts → Writes a b f g p q us
Writes-same a b f g p q ts us e h = subst (λ (u : List (List ℕ)). Writes a b f g p q u) e h
