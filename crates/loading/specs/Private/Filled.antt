-- An item and a tank as the code holds them.
use Rattle.loading.specs.Load.{Item, Tank}
use Rattle.loading.specs.declared.tanks.Tank as Tanks
use Rattle.loading.specs.declared.weights.Weight.{Weight}

abbrev pub item_of : Weight → Item
item_of w = record { kg = w.kg; x = w.x; y = w.y; z = w.z }

abbrev pub tank_of : Tanks.Tank → Tank
tank_of t = record {
  contents = t.contents.kg;
  capacity = t.capacity;
  x = t.contents.x;
  y = t.contents.y;
  z = t.contents.z;
  length = t.length;
  breadth = t.breadth;
  density = t.density;
}
