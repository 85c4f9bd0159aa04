-- The change request's examples, by computation.
use mathlib.Core.Path.{◌≡◌, refl}
use lib.IntN.{negsuc}
use Rattle.tariff.specs.Tariff.{packets, saving_of}

-- "32 numbers need one packet, 33 need two"; none need none, and the longest recipe needs 2,048; "A one-byte new job saves
-- −72"; "The hand-worked saving of −3 becomes −69": 7 bytes, of which 4 are new, in 3 chunks; the longest recipe, of new chunks
-- of three bytes, saves as little as any
pub examples :
    (packets 0 ≡ 0)
    × (packets 1 ≡ 1)
    × (packets 32 ≡ 1)
    × (packets 33 ≡ 2)
    × (packets 65535 ≡ 2048)
    × (saving_of 1 1 1 ≡ negsuc 71)
    × (saving_of 7 4 3 ≡ negsuc 68)
    × (saving_of 196605 196605 65535 ≡ negsuc 147455)
unfolding saving_of packets
examples = (refl, refl, refl, refl, refl, refl, refl, refl)
